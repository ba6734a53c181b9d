use Rattle.std.proofs.Common.{sym}
use Rattle.image_writer.specs.Outlined.{outlined}
use Rattle.image_writer.specs.Page.{page}
use Rattle.image_writer.proofs.Filing.{length-page}
use Rattle.image_writer.proofs.Framing.{put_behind}
use Rattle.image_writer.proofs.frame.front_of.Goals as goal

pub returns : goal.returns
returns c =
    let o = outlined c.args.outline.now in
    put_behind c.new-front.result.items c.grow.new.file.items c.as_mut_slice.result.now c.put_page.new.out (page o)
    0 4096 c.grow.new.file.len c.new-front.ensures.items (sym (length-page o c.requires.loadable))
    (sym c.grow.new.file.ok.0)
    (c.in_ok-grow.ensures {u = tt}).ok c.as_mut_slice.ensures.value c.put_page.ensures

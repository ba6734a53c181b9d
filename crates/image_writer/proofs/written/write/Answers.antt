use Rattle.std.proofs.Common.{◌≡◌, length, sym, ap, ◌∙◌}
use Rattle.image_writer.specs.Outlined.{Outlined, end_of, last_part}
use Rattle.image_writer.specs.Page.{file_offset}
use Rattle.image_writer.specs.Written.{written}
use Rattle.image_writer.proofs.Filing.{written_behind}
use Rattle.image_writer.proofs.written.write.Goals as goal

pub returns-clause-ok : goal.returns-clause-ok
returns-clause-ok c =
    let size : c.file_size.result ≡ length (written c.args.image.now) =
    c.file_size.ensures
    ∙ ap (λ (o : Outlined). file_offset o.kind (end_of (last_part o))) c.outline_of-outline.ensures
    ∙ sym c.written_again.ensures.size in
    written_behind c.args.into.now.items (written c.args.image.now) c.grow.new.file.items c.as_mut_slice.result.now
    c.put_image.new.out c.file_size.result c.len-at.result c.grow.new.file.len size
    (c.len-at.ensures ∙ c.args.into.now.ok.0) (sym c.grow.new.file.ok.0) (c.in_ok-grow.ensures {u = tt}).ok
    c.as_mut_slice.ensures.value c.put_image.ensures

use Rattle.std.proofs.Common.{◌+◌, sym, ap, ◌∙◌, arith}
use Rattle.elf_records.specs.Fields.{splice}
use Rattle.image_writer.specs.Outlined.{outline_of}
use Rattle.image_writer.specs.Page.{base_of, page}
use Rattle.image_writer.specs.Written.{laid, written}
use Rattle.image_writer.proofs.Filing.{length-page, length-written-parts}
use Rattle.image_writer.proofs.Puts.{put_next}
use Rattle.image_writer.proofs.written.put_image.Goals as goal

pub put_page-requires-clause-room : goal.put_page-requires-clause-room
put_page-requires-clause-room c =
    let parts = length-written-parts c.args.image.now c.requires.loadable in
    omega (arith, parts, c.requires.room)

pub put_parts-requires-clause-room : goal.put_parts-requires-clause-room
put_parts-requires-clause-room c =
    let parts = length-written-parts c.args.image.now c.requires.loadable in
    omega (arith, parts, c.requires.room)

pub returns : goal.returns
unfolding written
returns c =
    let image = c.args.image.now in
    let at = c.args.at in
    let first = length-page (outline_of image) c.requires.loadable in
    put_next at (at + 4096) (page (outline_of image)) (laid (base_of image.kind) image.parts) c.args.out.now
    c.put_page.new.out c.put_parts.new.out (ap (λ n. at + n) (sym first)) (omega (arith, c.requires.room))
    (c.put_page.ensures ∙ ap (λ o. splice at (page o) c.args.out.now) c.requires.outline) c.put_parts.ensures

use Rattle.std.proofs.Common.{◌+◌, ◌≤◌, length, map, ap, ◌∙◌, arith}
use Rattle.elf_records.specs.Fields.{splice}
use Rattle.elf_records.specs.Laws.{length-splice}
use Rattle.image_writer.specs.Contents.{part_in}
use Rattle.image_writer.specs.Outlined.{outlined}
use Rattle.image_writer.specs.Page.{base_of, page}
use Rattle.image_writer.specs.Written.{laid}
use Rattle.image_writer.proofs.Filing.{length-page}
use Rattle.image_writer.proofs.InPlace.{page_over, size_is}
use Rattle.image_writer.proofs.written.put_around.Goals as goal

pub put_page-requires-clause-room : goal.put_page-requires-clause-room
put_page-requires-clause-room c =
    let o = outlined c.args.outline.now in
    let old = c.args.out.now in
    let L = laid (base_of o.kind) (map (part_in o.kind old) o.parts) in
    let size = size_is o old c.requires.loadable (omega (arith, c.requires.ends)) in
    let inside : 4096 + length L ≤ length old = omega (arith, size, c.requires.ends) in
    let same = ap length c.put_gaps.ensures ∙ length-splice 4096 L old inside in
    omega (arith, same, inside)

pub returns : goal.returns
returns c =
    let o = outlined c.args.outline.now in
    let old = c.args.out.now in
    let L = laid (base_of o.kind) (map (part_in o.kind old) o.parts) in
    let size = size_is o old c.requires.loadable (omega (arith, c.requires.ends)) in
    c.put_page.ensures
    ∙ ap (λ ys. splice 0 (page o) ys) c.put_gaps.ensures
    ∙ page_over (page o) L old (length-page o c.requires.loadable) (omega (arith, size, c.requires.ends))

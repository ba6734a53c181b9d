use Rattle.std.proofs.Common.{◌+◌, ◌*◌, refl, ap, ◌∙◌, arith}
use Rattle.elf_records.specs.Fields.{splice}
use Rattle.elf_records.specs.Records.{header_bytes}
use Rattle.image_writer.specs.Outlined.{outlined}
use Rattle.image_writer.proofs.Headings as headings
use Rattle.image_writer.proofs.page.put_page.Goals as goal

pub returns : goal.returns
returns c =
    let at = c.args.at in
    let count = c.header_count-count.result in
    headings.put_page (outlined c.args.outline.now) at (at + 64) (at + (64 + 56 * count)) count c.args.out.now
    c.write_header.new.bytes c.put_headers.new.out c.put_zeros.new.out c.header_count-count.ensures.count refl refl
    (omega arith)
    (c.write_header.ensures.bytes ∙ ap (λ h. splice at (header_bytes h) c.args.out.now) c.header_of.ensures)
    c.put_headers.ensures c.put_zeros.ensures

use Rattle.std.proofs.Common.{◌+◌, ◌*◌, refl, ap, ◌∙◌, arith}
use Rattle.std.proofs.lemmas.List.Elements.{All-more}
use Rattle.elf_records.specs.Fields.{splice}
use Rattle.elf_records.specs.Records.{rela_bytes}
use Rattle.elf_records.specs.RecordLaws.{length-rela_bytes}
use Rattle.image_file.specs.declared.relocation.ImageRelocation.{ImageRelocation}
use Rattle.image_writer.specs.Tables.{relocation_entry}
use Rattle.image_writer.specs.Told.{IsRelocationFitting}
use Rattle.image_writer.proofs.Puts.{splice_none, put_more}
use Rattle.image_writer.proofs.tables.put_relocations.Goals as goal

pub loop-number-init : goal.loop-number-init
loop-number-init c = (splice_none c.args.at c.args.out.now, λ k d below. absurd (omega arith))

pub loop-number-preserved : goal.loop-number-preserved
loop-number-preserved c =
    let at = c.args.at in
    let i = c.loop-number.number in (
      put_more (λ (r : ImageRelocation). rela_bytes (relocation_entry r)) 24 at (at + 24 * i) i c.args.relocations.now _
          c.args.out.now c.loop-number.out c.write_rela.new.bytes (λ r. length-rela_bytes (relocation_entry r))
          c.loop-number-test.true refl (omega arith) c.loop-number.invariant.0
          (c.write_rela.ensures.bytes
          ∙ ap (λ e. splice (at + 24 * i) (rela_bytes e) c.loop-number.out) c.relocation_entry-entry.ensures.entry),
      All-more IsRelocationFitting c.args.relocations.now i _ c.loop-number-test.true c.loop-number.invariant.1
          (c.relocation_entry-entry.ensures.place, c.relocation_entry-entry.ensures.addend),
    )

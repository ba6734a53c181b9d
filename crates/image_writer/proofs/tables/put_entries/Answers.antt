use Rattle.std.proofs.Common.{◌+◌, ◌*◌, refl, arith}
use Rattle.elf_records.specs.Records.{dynamic_bytes}
use Rattle.elf_records.specs.RecordLaws.{length-dynamic_bytes}
use Rattle.image_writer.proofs.Puts.{splice_none, put_more}
use Rattle.image_writer.proofs.tables.put_entries.Goals as goal

pub loop-number-init : goal.loop-number-init
loop-number-init c = splice_none c.args.at c.args.out.now

pub loop-number-preserved : goal.loop-number-preserved
loop-number-preserved c =
    put_more dynamic_bytes 16 c.args.at
    (c.args.at + 16 * c.loop-number.number) c.loop-number.number c.args.entries.now _
    c.args.out.now c.loop-number.out c.write_dynamic.new.bytes length-dynamic_bytes c.loop-number-test.true refl
    (omega arith) c.loop-number.invariant c.write_dynamic.ensures.bytes

use Rattle.std.proofs.Common.{◌≡◌}
use Rattle.elf_records.specs.Fields.{splice}
use Rattle.image_writer.proofs.Hashes.{words_below}
use Rattle.image_writer.proofs.tables.put_hash.Given as goal

abbrev pub invariant-loop-number : goal.invariant-loop-number
invariant-loop-number l = l.out ≡ splice l.at (words_below l.total l.number) l.fn.out

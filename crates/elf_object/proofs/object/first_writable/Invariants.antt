use Rattle.std.proofs.Common.{◌<◌, ℕ}
use Rattle.elf_object.specs.Object.{IsWritable}
use Rattle.elf_object.proofs.object.first_writable.Given as goal

abbrev pub invariant-loop-section : goal.invariant-loop-section
invariant-loop-section l = (s : ℕ) → s < l.section → IsWritable l.tables.bytes.now s → ⊥

use Rattle.std.proofs.Common.{◌≤◌, IsTrue, leb, ℕ, arith}
use Rattle.std.proofs.lemmas.Bool.Decides.{nat_tests}
use Rattle.elf_records.proofs.Powers.{alignment_small}
use Rattle.elf_records.proofs.alignment.is_alignment.Goals as goal

small_of : (n : ℕ) → IsTrue (leb n 4096) → n ≤ 4096
small_of n h = grind (arith, nat_tests)

pub returns-else-alignment-le-PAGE : goal.returns-else-alignment-le-PAGE
returns-else-alignment-le-PAGE c = (
  λ t. absurd (omega (arith, small_of c.args.alignment t, c.if-alignment-le-PAGE.false)),
  λ a. absurd (omega (arith, alignment_small c.args.alignment a, c.if-alignment-le-PAGE.false)),
)

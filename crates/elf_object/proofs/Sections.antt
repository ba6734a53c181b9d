-- What is lent past the table of sections.
use Rattle.std.proofs.Common.{◌≡◌, ◌≤◌, ◌&&◌, ℕ, false, List, None, refl, arith}
use Rattle.std.specs.Prelude.{nat_lt}
use Rattle.std.proofs.lemmas.Bool.Decides.{nat_tests}
use Rattle.elf_object.specs.Parts.{header}
use Rattle.elf_object.specs.Lent.{section_class}
use Rattle.elf_object.specs.Object.{section_count}

none_below : (s n : ℕ) → n ≤ s → (nat_lt 0 s && nat_lt s n) ≡ false
none_below s n h = grind (arith, nat_tests)

pub past_class : (b : List ℕ) (s : ℕ) → section_count b ≤ s → section_class b s ≡ None
unfolding section_class
past_class b s h = rw (none_below s (header b).e_shnum h) refl

-- The relocations that a section holds are those of the section that they are for.
use Rattle.std.proofs.Common.{◌≡◌, ℕ, List, [], None, Some, ap, arith}
use Rattle.std.proofs.lemmas.Bool.Decides.{nat_tests}
use Rattle.object_faults.specs.Firsts.{nonzero}
use Rattle.elf_object.specs.Lent.{relocation_target, relocations}
use Rattle.tls_symbols.specs.Faults.{held_for, held_in}

nonzero_is : (n t : ℕ) → nonzero n ≡ Some t → n ≡ t
nonzero_is n t e = grind (arith, nat_tests)

pub held_is : (b : List ℕ) (s t : ℕ) → nonzero (relocation_target b s) ≡ Some t
    → (held_in b s ≡ relocations b t) × (relocation_target b s ≡ t)
unfolding held_in
held_is b s t e = (ap (held_for b) e, nonzero_is (relocation_target b s) t e)

pub held_none : (b : List ℕ) (s : ℕ) → nonzero (relocation_target b s) ≡ None → held_in b s ≡ []
unfolding held_in
held_none b s e = ap (held_for b) e

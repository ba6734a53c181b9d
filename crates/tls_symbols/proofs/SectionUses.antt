-- Section 0 has no relocations.
use Rattle.std.proofs.Common.{◌≡◌, ◌-◌, ℕ, zero, suc, List, [], refl, arith}
use Rattle.std.specs.List.{flat_map, range_with_len}
use Rattle.elf_object.specs.Lent.{kept_relocation_table, relocations, relocations_in, section_class}

pub none_in_zero : (b : List ℕ) → relocations b 0 ≡ []
unfolding section_class kept_relocation_table relocations_in
none_in_zero b = refl

pub but_first : {X : Type 0} (f : ℕ → List X) (n : ℕ) → f 0 ≡ []
    → flat_map f (range_with_len 0 n) ≡ flat_map f (range_with_len 1 (n - 1))
but_first f zero none = refl
but_first f (suc n) none = let same : suc n - 1 ≡ n = omega arith in rw (none, same) refl

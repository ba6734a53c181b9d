-- The relocations that are left, one after another.
use Rattle.std.proofs.Common.{◌≡◌, ◌+◌, ◌*◌, ◌-◌, ◌<◌, ◌≤◌, ◌∙◌, ℕ, suc, List, [], ◌∷◌, length, map, Some, refl, ap}
use Rattle.std.proofs.Common.{arith, add-one}
use Rattle.std.specs.List.{range_with_len, slice_get}
use Rattle.std.proofs.lemmas.List.FromFn.{get_or-map-range_with_len, length-map-range_with_len}
use Rattle.std.proofs.lemmas.Option.{slice_get-get_or}
use Rattle.elf_object.specs.declared.relocation.Relocation.{Relocation}
use Rattle.elf_object.specs.Laws.{length-relocations_from}
use Rattle.elf_object.specs.Lent.{relocation_at, relocations_from}

-- none is left
pub relocations_none : (b : List ℕ) (at next end : ℕ) → end ≤ next → relocations_from b at next (end - next) ≡ []
unfolding relocations_from
relocations_none b at next end h = let zero : end - next ≡ 0 = omega arith in rw zero refl

-- the first one, and those behind it
pub relocations_first : (b : List ℕ) (at next end : ℕ) → next < end
    → relocations_from b at next (end - next) ≡ relocation_at (at + 24 * next) b
    ∷ relocations_from b at (next + 1) (end - (next + 1))
unfolding relocations_from
relocations_first b at next end h = let more : end - next ≡ suc (end - (next + 1)) = omega arith in
    rw (more, add-one) refl

-- relocation number i of those from a number on
pub relocations_nth : (b : List ℕ) (at next n i : ℕ) → i < n
    → slice_get (relocations_from b at next n) i ≡ Some (relocation_at (at + 24 * (next + i)) b)
unfolding relocations_from
relocations_nth b at next n i less =
    let f : ℕ → Relocation = λ k. relocation_at (at + 24 * k) b in
    let first : Relocation = f next in
    slice_get-get_or (map f (range_with_len next n)) i first (omega (arith, less, length-map-range_with_len f next n))
    ∙ ap Some (get_or-map-range_with_len f next n i (next + i) first less refl)

-- it is in the table
pub nth_inside : (b : List ℕ) (at next end i : ℕ) (left : List Relocation)
    → relocations_from b at next (end - next) ≡ left → i < length left
    → next + i < end
nth_inside b at next end i left is less =
    let count = ap length is in
    omega (arith, less, count, length-relocations_from b at next (end - next))

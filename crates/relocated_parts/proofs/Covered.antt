-- The relocation that covers a byte is the one that is found, and where none covers it none is.
use Rattle.std.proofs.Common.{◌≡◌, ◌∙◌, ◌+◌, ◌-◌, ◌<◌, ◌≤◌, ◌&&◌, ℕ, zero, suc, Bool, true, false, List, [], ◌∷◌}
use Rattle.std.proofs.Common.{Option}
use Rattle.std.proofs.Common.{Some, None, length, inl, inr, refl, sym, ap, arith, if◌then◌else◌}
use Rattle.std.specs.Prelude.{slice_get, slice_index_or}
use Rattle.std.specs.List.{Contains, find}
use Rattle.std.proofs.lemmas.Bool.{cases_lt, le-leb, lt-ltb}
use Rattle.std.proofs.lemmas.Bool.Decides.{nat_tests}
use Rattle.std.proofs.lemmas.Option.{same_Some, slice_get-get_or}
use Rattle.image_file.specs.declared.relocation.ImageRelocation.{ImageRelocation}
use Rattle.image_file.specs.Spelled.{Part}
use Rattle.image_writer.specs.Contents.{Contents}
use Rattle.image_writer.specs.Linkable.{AreRising, width}
use Rattle.image_writer.specs.Tables.{finished}
use Rattle.loaded_modules.specs.declared.instance.Instance.{Instance}
use Rattle.loaded_modules.specs.Images.{JobImages}
use Rattle.loaded_modules.specs.LoaderLaws.{loaded_part}
use Rattle.relocated_parts.specs.Laws.{Covers, IsLeft, IsMade, LoadedBytesAreCovered}
use Rattle.relocated_parts.specs.Left.{byte_by, is_written_at, left_byte, written_byte}
use Rattle.relocated_parts.proofs.Found.{find_only}
use Rattle.relocated_parts.proofs.Loaded.{loaded_left}

covers_is : (r : ImageRelocation) (address : ℕ) → is_written_at address r ≡ true → Covers r address
covers_is r address h = grind (arith, nat_tests)

covers_so : (r : ImageRelocation) (address : ℕ) → Covers r address → is_written_at address r ≡ true
covers_so r address h = rw (le-leb r.place address h.0, lt-ltb address (r.place + width r.kind) h.1) refl

-- a later one lies behind
lies_behind : (rs : List ImageRelocation) → AreRising rs → (i j : ℕ) (r s : ImageRelocation) → i < j
    → slice_get rs i ≡ Some r → slice_get rs j ≡ Some s → r.place + width r.kind ≤ s.place
lies_behind [] rising i j r s less first next = cc
lies_behind (x ∷ []) rising i zero r s less first next = absurd (omega (arith, less))
lies_behind (x ∷ []) rising i (suc j) r s less first next = cc
lies_behind (x ∷ (y ∷ more)) rising i zero r s less first next = absurd (omega (arith, less))
lies_behind (x ∷ (y ∷ more)) rising zero (suc zero) r s less first next =
    let one : x ≡ r = same_Some x r first in
    let two : y ≡ s = same_Some y s next in
    let begin : x.place + width x.kind ≡ r.place + width r.kind =
    ap (λ (z : ImageRelocation). z.place + width z.kind) one in
    let place : y.place ≡ s.place = ap (λ (z : ImageRelocation). z.place) two in
    omega (arith, rising.0, begin, place)
lies_behind (x ∷ (y ∷ more)) rising zero (suc (suc j)) r s less first next =
    let one : x ≡ r = same_Some x r first in
    let begin : x.place + width x.kind ≡ r.place + width r.kind =
    ap (λ (z : ImageRelocation). z.place + width z.kind) one in
    let rest = lies_behind (y ∷ more) rising.1 0 (suc j) y s (omega arith) refl next in
    omega (arith, rising.0, begin, rest)
lies_behind (x ∷ (y ∷ more)) rising (suc i) (suc j) r s less first next =
    lies_behind (y ∷ more) rising.1 i j r s (omega (arith, less)) first next

found_one : (rs : List ImageRelocation) → AreRising rs → (r : ImageRelocation) (address : ℕ) → Contains rs r
    → Covers r address → find (is_written_at address) rs ≡ Some r
found_one rs rising r address has covers =
    let at : slice_get rs has.0 ≡ Some r = slice_get-get_or rs has.0 r has.1 ∙ ap Some has.2 in
    find_only (is_written_at address) rs has.0 r at (covers_so r address covers) (λ j s there passes.
    let again = covers_is s address passes in
    elim (cases_lt j has.0) [
      | inl less ↦
          let apart = lies_behind rs rising j has.0 s r less there at in
          absurd (omega (arith, apart, again.1, covers.0))
      | inr most ↦ elim (cases_lt has.0 j) [
        | inl less ↦
            let apart = lies_behind rs rising has.0 j r s less at there in
            absurd (omega (arith, apart, again.0, covers.1))
        | inr least ↦ omega (arith, most, least)
      ]
    ])

found_none : (rs : List ImageRelocation) (address : ℕ) → ((r : ImageRelocation) → Contains rs r → Covers r address → ⊥)
    → find (is_written_at address) rs ≡ None
found_none [] address none = refl
found_none (r ∷ rs) address none =
    of_test (is_written_at address r) refl
    (found_none rs address (λ s has. none s (suc has.0, (let below = has.1 in omega arith), has.2)))
  where
    of_test : (t : Bool) → is_written_at address r ≡ t → find (is_written_at address) rs ≡ None
        → (if t then Some r else find (is_written_at address) rs) ≡ None
    of_test true e rest = absurd (none r (0, omega arith, refl) (covers_is r address e))
    of_test false e rest = rest

module _ (m : JobImages) (c : Contents) (x : Instance) (i : ℕ) (part : Part) (made : IsMade m c x)
    (is : slice_get (finished c).parts i ≡ Some part) where
  left : IsLeft m (finished c) x part (loaded_part m x i)
  left = loaded_left m c x i part made is

  rising : AreRising (finished c).relocations
  unfolding finished
  rising = made.linkable.rising

  written : (k : ℕ) (r : ImageRelocation) → k < length part.bytes → Contains (finished c).relocations r
      → Covers r (part.address + k)
      → slice_get (loaded_part m x i) k ≡ Some (written_byte m (finished c) x r (part.address + k - r.place))
  unfolding left_byte
  written k r below has covers =
      let first : ℕ = slice_index_or part.bytes k 0 in
      let own : slice_get part.bytes k ≡ Some first = slice_get-get_or part.bytes k 0 below in
      left.each k first own
      ∙ ap (λ o. Some (byte_by m (finished c) x (part.address + k) first o))
      (found_one (finished c).relocations rising r (part.address + k) has covers)

  kept : (k own : ℕ) → slice_get part.bytes k ≡ Some own
      → ((r : ImageRelocation) → Contains (finished c).relocations r → Covers r (part.address + k) → ⊥)
      → slice_get (loaded_part m x i) k ≡ Some own
  unfolding left_byte
  kept k own at none =
      left.each k own at
      ∙ ap (λ o. Some (byte_by m (finished c) x (part.address + k) own o))
      (found_none (finished c).relocations (part.address + k) none)

pub loaded_bytes_are_covered : LoadedBytesAreCovered
loaded_bytes_are_covered m c x i part made is =
    record { written = written m c x i part made is; own = kept m c x i part made is }

-- The relocation of a number, and the one whose field covers a byte.
use Rattle.std.proofs.Common.{◌≡◌, ◌<◌, ◌⊎◌, ℕ, List, inl, inr, arith}
use Rattle.std.proofs.lemmas.Option.{same_Some}
use Rattle.elf_object.specs.declared.relocation.Relocation.{Relocation}
use Rattle.sequence_match.specs.declared.index.Reach.TheVariants.{OfField}
use Rattle.sequence_match.specs.Code.{AreApart, ReachesAt}
use Rattle.sequence_match.specs.Sites.{Covers, IsEntry, IsBare}

-- the entry at an index is one
pub same_entry : (xs : List Relocation) (e : ℕ) (x y : Relocation) → IsEntry xs e x → IsEntry xs e y → x ≡ y
same_entry xs e x y a b = same_Some x y (cc)

-- a byte that is reached by no field is bare
pub bare_of : (xs : List Relocation) (k : ℕ) → ((e : ℕ) → ReachesAt OfField xs k e → ⊥) → IsBare xs k
bare_of xs k none f x entry covers = none f (x, entry, covers)

pub below_or_not : (e f : ℕ) → (e < f) ⊎ ((e ≡ f) ⊎ (f < e))
below_or_not e f = grind arith

-- one field covers a byte
pub only_field : (xs : List Relocation) (k e f : ℕ) (x : Relocation) → AreApart xs → ReachesAt OfField xs k e
    → IsEntry xs f x → Covers x k → f ≡ e
only_field xs k e f x apart by entry covers =
    elim (below_or_not f e) [
      | inl less ↦ absurd (apart f e k x by.0 entry by.1 less covers by.2)
      | inr (inl eq) ↦ eq
      | inr (inr more) ↦ absurd (apart e f k by.0 x by.1 entry more by.2 covers)
    ]

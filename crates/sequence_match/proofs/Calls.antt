-- The second relocation of a sequence, and the earliest at a place, found by place.
use Rattle.std.proofs.Common.{◌≡◌, ◌+◌, ◌<◌, ◌≤◌, ◌↔◌, ◌==◌, ◌∙◌, ℕ, List, Bool, Some, IsTrue, refl, subst, sym, ap}
use Rattle.std.proofs.Common.{inl, inr, arith}
use Rattle.std.proofs.lemmas.Bool.Decides.{nat_tests}
use Rattle.elf_records.specs.declared.relocation.RelocationKind.{RelocationKind}
use Rattle.elf_records.specs.declared.relocation.RelocationKind.TheVariants.{TlsDescCall}
use Rattle.elf_object.specs.declared.relocation.Relocation.{Relocation}
use Rattle.elf_object.specs.Relocations.{field_width}
use Rattle.sequence_forms.specs.declared.forms.Second.{Second}
use Rattle.sequence_match.specs.declared.index.Reach.TheVariants.{OfField, OfCall}
use Rattle.sequence_match.specs.Code.{AreApart, IsEarliest, ReachesAt, call_width}
use Rattle.sequence_match.specs.Faults.{IsOfSequence}
use Rattle.sequence_match.specs.Sites.{Covers, Calls, IsEntry, IsSecond}
use Rattle.sequence_match.proofs.Entries.{bare_of, below_or_not, only_field, same_entry}
use Rattle.sequence_match.proofs.Indexed.{reach_of_call}
use Rattle.sequence_match.proofs.Rows.{call_width_is, sequence_width}

starts : (a k o w : ℕ) → o ≡ k → w ≡ 4 → (o ≤ k) × (k < o + w)
starts a k o w same four = (omega arith, omega arith)

-- a second relocation covers its place
pub covers_call : (second : Second) (getter : ℕ → Type 0) (start : ℕ) (x : Relocation) → Calls second getter start x
    → Covers x (start + second.at)
covers_call second getter start x h =
    starts 0 (start + second.at) x.offset (field_width x.kind) h.offset_is (call_width_is second.call x.kind h.kind_is)

module _ (xs : List Relocation) (apart : AreApart xs) (second : Second) (getter : ℕ → Type 0) (start : ℕ) where
  -- the relocation whose field covers the place is the second one, or none is
  pub call_found : (e : ℕ) (x : Relocation) (r : Bool) → ReachesAt OfField xs (start + second.at) e → IsEntry xs e x
      → (IsTrue r ↔ Calls second getter start x) → IsTrue r ↔ ((f : ℕ) × IsSecond (Some second) getter xs start f)
  call_found e x r by entry is = (
    λ t. (e, (x, entry, is.0 t)),
    λ h.
        let eq = only_field xs (start + second.at) e h.0 h.1.0 apart by h.1.1
        (covers_call second getter start h.1.0 h.1.2) in
        let P : ℕ → Type 0 = λ n. IsEntry xs n h.1.0 in
        let C : Relocation → Type 0 = λ y. Calls second getter start y in
        is.1 (subst C (same_entry xs e h.1.0 x (subst P eq h.1.1) entry) h.1.2),
  )

  pub call_missing : ((e : ℕ) → ReachesAt OfField xs (start + second.at) e → ⊥)
      → ((f : ℕ) × IsSecond (Some second) getter xs start f) → ⊥
  call_missing none h = bare_of xs (start + second.at) none h.0 h.1.0 h.1.1
      (covers_call second getter start h.1.0 h.1.2)

-- a relocation with a field is the first at its place
pub field_earliest : (xs : List Relocation) (e : ℕ) (x : Relocation) → AreApart xs → IsEntry xs e x
    → IsOfSequence x.kind
    → (x.kind ≡ TlsDescCall → ⊥) → IsEarliest xs e x
field_earliest xs e x apart entry sequence other f y less at kind offset =
    let wide = sequence_width x.kind sequence other in
    let same : field_width y.kind ≡ 4 = ap field_width kind ∙ wide in
    apart f e x.offset y x at entry less (starts 0 x.offset y.offset (field_width y.kind) offset same)
    (starts 0 x.offset x.offset (field_width x.kind) refl wide)

reaches_place : (kind : RelocationKind) (o k : ℕ) → kind ≡ TlsDescCall → o ≡ k → (o ≤ k) × (k < o + call_width kind)
reaches_place kind o k same at = rw same (omega arith, omega arith)

eq_of : (a b : ℕ) → IsTrue (a == b) → a ≡ b
eq_of a b t = grind (arith, nat_tests)

of_eq : (a b : ℕ) → a ≡ b → IsTrue (a == b)
of_eq a b h = grind (arith, nat_tests)

module _ (xs : List Relocation) (e : ℕ) (x : Relocation) (entry : IsEntry xs e x) (call : x.kind ≡ TlsDescCall) where
  reaches_itself : ReachesAt OfCall xs x.offset e
  reaches_itself = (x, entry, reaches_place x.kind x.offset x.offset call refl)

  pub call_earliest : (first : ℕ)
      → ReachesAt OfCall xs x.offset first × ((f : ℕ) → f < first → ReachesAt OfCall xs x.offset f → ⊥)
      → IsTrue (first == e) ↔ IsEarliest xs e x
  call_earliest first by = (
    λ t f y less at kind offset.
        by.1 f (omega (arith, eq_of first e t, less))
        (y, at, reaches_place y.kind y.offset x.offset (kind ∙ call) offset),
    λ earliest. of_eq first e
        (elim (below_or_not first e) [
          | inl less ↦
              let place = reach_of_call by.0.0.kind by.0.0.offset x.offset by.0.2 in
              absurd (earliest first by.0.0 less by.0.1 (place.0 ∙ sym call) place.1)
          | inr (inl eq) ↦ eq
          | inr (inr more) ↦ absurd (by.1 e more reaches_itself)
        ]),
  )

  pub call_there : ((f : ℕ) → ReachesAt OfCall xs x.offset f → ⊥) → ⊥
  call_there none = none e reaches_itself

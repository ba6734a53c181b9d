-- A section without a use has no site, and no fault stands in it.
use Rattle.std.proofs.Common.{◌≡◌, ◌+◌, ◌<◌, ◌≤◌, ◌||◌, ℕ, List, [], Bool, true, false, None, refl, sym, subst, arith}
use Rattle.std.specs.List.{list_any}
use Rattle.std.proofs.lemmas.List.Folds.{list_any_at}
use Rattle.std.proofs.lemmas.Option.{slice_get_within, get_or_from_slice_get}
use Rattle.object_rules.specs.declared.fault.FaultKind.TheVariants.{Sequence, StrayCall}
use Rattle.elf_records.specs.declared.relocation.RelocationKind.{RelocationKind}
use Rattle.elf_records.specs.declared.relocation.RelocationKind.TheVariants.{TlsGd, TlsLd, GotTpOff, GotPc32TlsDesc}
use Rattle.elf_records.specs.declared.relocation.RelocationKind.TheVariants.{TlsDescCall}
use Rattle.elf_object.specs.declared.relocation.Relocation.{Relocation}
use Rattle.elf_object.specs.Faults.{IsFirstAt}
use Rattle.elf_object.specs.Lent.{relocations}
use Rattle.sequence_match.specs.Code.{Names}
use Rattle.sequence_match.specs.Faults.{IsOfSequence, StandsOf}
use Rattle.sequence_match.specs.Finding.{AreGetters, AreSitesFrom, is_of_sequence, is_use}
use Rattle.sequence_match.specs.Sites.{IsEntry}
use Rattle.sequence_match.proofs.Rows.{first_of_sequence}

sequence_is : (kind : RelocationKind) → IsOfSequence kind → is_of_sequence kind ≡ true
sequence_is TlsGd h = refl
sequence_is TlsLd h = refl
sequence_is GotTpOff h = refl
sequence_is GotPc32TlsDesc h = refl
sequence_is TlsDescCall h = refl
sequence_is _ h = absurd (cc)

left_or : (a b : Bool) → a ≡ true → (a || b) ≡ true
left_or true b h = refl
left_or false b h = absurd (cc)

right_or : (a b : Bool) → b ≡ true → (a || b) ≡ true
right_or true b h = refl
right_or false b h = h

both_ways : (a : Bool) → a ≡ true → a ≡ false → ⊥
both_ways true h k = absurd (cc)
both_ways false h k = absurd (cc)

module _ (getters : List Bool) (xs : List Relocation) (none : list_any (is_use getters) xs ≡ false) where
  unused : (e : ℕ) (x : Relocation) → IsEntry xs e x → is_use getters x ≡ true → ⊥
  unused e x entry used =
      let P : Relocation → Type 0 = λ y. is_use getters y ≡ true in
      both_ways (list_any (is_use getters) xs)
      (list_any_at (is_use getters) xs e x (slice_get_within xs e x entry)
      (subst P (sym (get_or_from_slice_get xs e x x entry)) used)) none

  no_sequence : (e : ℕ) (x : Relocation) → IsEntry xs e x → IsOfSequence x.kind → ⊥
  no_sequence e x entry of = unused e x entry (left_or _ _ (sequence_is x.kind of))

  no_getter : (e : ℕ) (x : Relocation) → IsEntry xs e x → Names getters x.symbol → ⊥
  no_getter e x entry names = unused e x entry (right_or (is_of_sequence x.kind) _ names)

module _ (b : List ℕ) (s : ℕ) (getters : List Bool) (are : AreGetters b getters)
    (none : list_any (is_use getters) (relocations b s) ≡ false) where
  pub none_loose : IsFirstAt (StandsOf Sequence b s) None
  none_loose e h = no_sequence getters (relocations b s) none e h.0 h.1 h.2

  pub none_stray : IsFirstAt (StandsOf StrayCall b s) None
  none_stray e h = no_getter getters (relocations b s) none e h.0 h.1 ((are h.0.symbol).1 h.3)

  at_most : (m : ℕ) → s ≤ m → m < s + 1 → m ≡ s
  at_most m low high = omega arith

  pub no_sites : AreSitesFrom b s (s + 1) []
  no_sites = record {
    only = λ k d inside. absurd (omega arith);
    every = λ site is low high.
        let first = is.1.first in
        let R : ℕ → Type 0 = λ t. IsEntry (relocations b t) is.0 first.0 in
        let K : RelocationKind → Type 0 = λ kind. IsOfSequence kind in
        absurd
        (no_sequence getters (relocations b s) none is.0 first.0 (subst R (at_most site.section low high) first.1)
        (subst K (sym first.2.kind_is) (first_of_sequence site.form)));
    rising = λ i j d less inside. absurd (omega arith);
  }

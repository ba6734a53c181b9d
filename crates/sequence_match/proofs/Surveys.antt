-- From what is found in the sections to what is found in the object.
use Rattle.std.proofs.Common.{◌≡◌, ◌<◌, ◌≤◌, ◌⊎◌, ℕ, List, Option, Some, None, refl, sym, ap, subst, inl, inr, arith}
use Rattle.object_rules.specs.declared.fault.FaultKind.{FaultKind}
use Rattle.object_rules.specs.declared.fault.FaultKind.TheVariants.{Sequence, StrayCall}
use Rattle.elf_object.specs.declared.relocation.Relocation.{Relocation}
use Rattle.elf_object.specs.Faults.{number, Earlier, IsFirst, IsFirstAt}
use Rattle.elf_object.specs.Laws.{table_of_kept}
use Rattle.elf_object.specs.Lent.{kept_relocation_table, relocations, section_class}
use Rattle.elf_object.specs.Parts.{header}
use Rattle.sequence_match.specs.declared.finding.Findings.{Findings}
use Rattle.sequence_match.specs.declared.finding.Spot.{Spot}
use Rattle.sequence_match.specs.declared.matching.Code.{Code}
use Rattle.sequence_match.specs.Code.{Names}
use Rattle.sequence_match.specs.Faults.{code_of, IsGetter, Nowhere, Stands, StandsAt, StandsOf}
use Rattle.sequence_match.specs.Finding.{AreFindings, AreFindingsIn, AreGetters, IsFirstBelow, IsFirstOf, StandsBelow}
use Rattle.sequence_match.proofs.Found.{stands_with}
use Rattle.sequence_match.proofs.Tables.{sites_sorted}

first_by : (P Q : ℕ → Type 0) → ((e : ℕ) → P e → Q e) → ((e : ℕ) → Q e → P e) → (o : Option ℕ) → IsFirstAt P o
    → IsFirstAt Q o
first_by P Q to from None h = λ e q. h e (from e q)
first_by P Q to from (Some e) h = (to e h.0, λ f less q. h.1 f less (from f q))

-- code that is a section's
module _ (code : Code) (b : List ℕ) (s : ℕ) (at : code.section ≡ s) (bytes_are : code.bytes.now ≡ code_of b s)
    (xs_are : code.relocations.now ≡ relocations b s) (are : AreGetters b code.getters.now) where
  first_of : (kind : FaultKind) (o : Option ℕ)
      → IsFirstAt (StandsAt kind code.bytes.now code.relocations.now (Names code.getters.now)) o
      → IsFirstAt (StandsOf kind b s) o
  first_of kind o h =
      let B : List ℕ → Type 0 = λ c. IsFirstAt (StandsAt kind c code.relocations.now (Names code.getters.now)) o in
      let X : List Relocation → Type 0 = λ c. IsFirstAt (StandsAt kind (code_of b s) c (Names code.getters.now)) o in
      first_by (StandsAt kind (code_of b s) (relocations b s) (Names code.getters.now)) (StandsOf kind b s)
      (λ e p. stands_with (Names code.getters.now) (IsGetter b) kind (code_of b s) (relocations b s) e (λ n. (are n).0)
      (λ n. (are n).1) p)
      (λ e p. stands_with (IsGetter b) (Names code.getters.now) kind (code_of b s) (relocations b s) e (λ n. (are n).1)
      (λ n. (are n).0) p)
      o (subst X xs_are (subst B bytes_are h))

  pub findings_are : (found : Findings) → AreFindingsIn code found → AreFindings b s found
  findings_are found h = record {
    sites = sites_sorted code b s at bytes_are xs_are are h.sites.0 found.sites.items h.sites.1 h.sites.2 h.rising;
    loose = first_of Sequence found.loose h.loose;
    stray = first_of StrayCall found.stray h.stray;
  }

no_table : (b : List ℕ) → kept_relocation_table b 0 ≡ 0
unfolding kept_relocation_table section_class
no_table b = refl

-- before the first section nothing stands
pub below_first : (kind : FaultKind) (b : List ℕ) → IsFirstBelow kind b 1 None
below_first kind b s e h =
    let zero : s ≡ 0 = omega (arith, h.0) in
    omega (arith, h.1, ap (kept_relocation_table b) zero, no_table b)

-- where a fault stands, the section is one of those
stands_below : (kind : FaultKind) (b : List ℕ) (n r e : ℕ) → (header b).e_shnum ≤ n → (h : Stands kind b r e)
    → StandsBelow kind b n h.1.0 e
stands_below kind b n r e all h =
    let some : 0 < kept_relocation_table b h.1.0 = omega (arith, h.0, h.1.1) in
    let table = table_of_kept b h.1.0 some in
    (omega (arith, all, table.0.0.1), some, h.1.2)

-- what is found in all sections
pub below_all : (kind : FaultKind) (b : List ℕ) (n : ℕ) (o : Option Spot) → (header b).e_shnum ≤ n
    → IsFirstBelow kind b n o → IsFirstOf kind b o
below_all kind b n None all h = λ r e stands. h stands.1.0 e (stands_below kind b n r e all stands)
below_all kind b n (Some spot) all h = (
  h.0,
  λ t f earlier stands.
      let E : ℕ → Type 0 = λ r. Earlier r f spot.table spot.entry in
      h.1 stands.1.0 f (stands_below kind b n t f all stands) (subst E (sym stands.1.1) earlier),
)

-- of the kinds, two can stand
only_two : (kind : FaultKind) (b : List ℕ) (s e : ℕ) → StandsOf kind b s e → (kind ≡ Sequence) ⊎ (kind ≡ StrayCall)
only_two Sequence b s e h = inl refl
only_two StrayCall b s e h = inr refl
only_two _ b s e h = absurd h

pub loose_fault : (b : List ℕ) (spot : Spot) → IsFirstOf Sequence b (Some spot)
    → IsFirst Stands b spot.table spot.entry Sequence
loose_fault b spot h = record {
  here = h.0;
  nowhere_earlier = h.1;
  earlier_kinds = λ earlier less t f stands. elim (only_two earlier b stands.1.0 f stands.1.2) [
    | inl same ↦ omega (arith, less, ap number same)
    | inr same ↦ omega (arith, less, ap number same)
  ];
}

pub stray_fault : (b : List ℕ) (spot : Spot) → Nowhere Sequence b → IsFirstOf StrayCall b (Some spot)
    → IsFirst Stands b spot.table spot.entry StrayCall
stray_fault b spot none h = record {
  here = h.0;
  nowhere_earlier = h.1;
  earlier_kinds = λ earlier less t f stands. elim (only_two earlier b stands.1.0 f stands.1.2) [
    | inl same ↦ let N : FaultKind → Type 0 = λ k. Stands k b t f in none t f (subst N same stands)
    | inr same ↦ omega (arith, less, ap number same)
  ];
}

pub nowhere_of : (kind : FaultKind) (b : List ℕ) (o : Option Spot) → o ≡ None → IsFirstOf kind b o → Nowhere kind b
nowhere_of kind b None same h = h
nowhere_of kind b (Some spot) same h = absurd (cc)

pub first_at : (kind : FaultKind) (b : List ℕ) (o : Option Spot) (spot : Spot) → o ≡ Some spot → IsFirstOf kind b o
    → IsFirstOf kind b (Some spot)
first_at kind b o spot same h = let P : Option Spot → Type 0 = λ x. IsFirstOf kind b x in subst P same h

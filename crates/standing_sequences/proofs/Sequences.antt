-- At the place of a sequence stands a rewritten form exactly where the table gives it, and else the sequence.
use Rattle.std.proofs.Common.{◌≡◌, ◌+◌, ◌<◌, ◌≤◌, ◌∙◌, ℕ, Bool, true, false, List, [], Some, inl, inr, refl, sym}
use Rattle.std.proofs.Common.{ap, subst, arith}
use Rattle.std.specs.Prelude.{slice_get, slice_index_or}
use Rattle.std.specs.List.{Contains}
use Rattle.std.proofs.lemmas.Option.{same_Some, slice_get_within}
use Rattle.elf_object.specs.Lent.{section_bytes, section_class, section_size}
use Rattle.link_core.proofs.LengthsInside.{form_some, is_code}
use Rattle.link_core.proofs.StandingPlaces.{site_in}
use Rattle.link_core.specs.Images.{image_of}
use Rattle.link_needs.specs.Linking.{Linking, choice, object, sites_at}
use Rattle.link_needs.specs.Needs.{is_kept}
use Rattle.object_faults.specs.declared.class.SectionClass.TheVariants.{Executable}
use Rattle.relax_sites.specs.declared.choices.Choice.{Choice}
use Rattle.placed_sections.proofs.Standing.{memory_byte}
use Rattle.sequence_forms.specs.declared.forms.Cell.{Cell}
use Rattle.sequence_forms.specs.declared.places.Site.{Site}
use Rattle.sequence_forms.specs.Forms.{fits, row}
use Rattle.sequence_match.specs.Faults.{code_of}
use Rattle.sequence_match.specs.Sites.{IsLiteral}
use Rattle.standing_sequences.specs.Bytes.{HasForm, HasOwnForm, IsPlain, IsSectionAt, byte_at, own_byte}
use Rattle.standing_sequences.specs.Laws.{IsLinked, SequencesStandByTheTable}
use Rattle.standing_sequences.specs.Table.{IsDue, IsSequence, Matches, MayReplace}
use Rattle.standing_sequences.proofs.Choosing.{listed_changes, matched, matches}
use Rattle.standing_sequences.proofs.Covering.{one_sequence, own_site}
use Rattle.standing_sequences.proofs.Kept.{limits, own_stands}
use Rattle.standing_sequences.proofs.Rewritten.{has_form}
use Rattle.standing_sequences.proofs.Rows.{rows_differ, same_or_apart}

code_is : (b : List ℕ) (s : ℕ) → section_class b s ≡ Some Executable → code_of b s ≡ section_bytes b s
unfolding code_of
code_is b s e = rw e refl

module _ (l : Linking) (linked : IsLinked l) (o t address : ℕ) (at : IsSectionAt l o t address) (site : Site)
    (is : IsSequence l o t site) where
  abbrev begins : ℕ
  begins = address + site.start

  has : Contains (sites_at l o) site
  has = own_site l linked.given o t at.there site is

  inside : site.start + site.len ≤ section_size (object l o) site.section
  inside = (site_in l linked.given (limits l linked o t address at) o site at.there has).fits

  -- the object's own byte fits its cell, and no relocation has a field there where it is literal
  own_fits : (k : ℕ) (cell : Cell) → slice_get (row site.form).cells k ≡ Some cell → IsLiteral cell
      → (k < site.len) × IsPlain l o site.section (site.start + k)
      × ((byte : ℕ) × (own_byte l o site.section (site.start + k) ≡ Some byte) × (fits cell byte ≡ true))
  own_fits k cell e literal =
      let below = slice_get_within (row site.form).cells k cell e in
      let len = is.spelled.1.len_is in
      let stands = is.spelled.1.spelled.stands k cell e in
      let long = is.spelled.1.spelled.inside in
      let some = form_some site.form in
      let object_is = linked.given.are_objects o [] at.there in
      let code = is_code (object l o) object_is site.section (omega (arith, long, some)) in (
        omega (arith, below, len),
        stands.1 literal,
        (
          slice_index_or (section_bytes (object l o) site.section) (site.start + k) 0,
          memory_byte (object l o) site.section (site.start + k) (omega (arith, below, len, inside)),
          ap (λ xs. fits cell (slice_index_or xs (site.start + k) 0))
              (sym (code_is (object l o) site.section code.class_is))
              ∙ stands.0,
        ),
      )

  -- both cannot be there
  never_both : (c : Choice) → MayReplace site.form c → HasForm (image_of l) begins site c
      → HasOwnForm l (image_of l) o begins site → ⊥
  never_both c may form own =
      let d = rows_differ site.form c site.reg may in
      let fit = own_fits d.at d.cell d.cell_is d.literal in
      let one : Some d.byte ≡ Some fit.2.0 =
      sym (form d.at d.byte d.byte_is d.outside) ∙ own d.at fit.0 fit.1 ∙ fit.2.1 in
      let wrong : true ≡ false =
      sym fit.2.2 ∙ ap (fits d.cell) (sym (same_Some d.byte fit.2.0 one)) ∙ d.other in
      cc

  given : (c : Choice) → Matches l o site c → HasForm (image_of l) begins site c
  given c m = has_form l linked o t address at site is c m

  -- where the table gives none
  kept : ((c : Choice) → Matches l o site c → ⊥) → HasOwnForm l (image_of l) o begins site
  kept none k below plain =
      let place : address + site.start + k ≡ address + (site.start + k) = omega arith in
      let Own : ℕ → Type 0 = λ s. byte_at (image_of l) (address + (site.start + k)) ≡ own_byte l o s (site.start + k) in
      let Plain : ℕ → Type 0 = λ s. IsPlain l o s (site.start + k) in
      let Inside : ℕ → Type 0 = λ s. site.start + site.len ≤ section_size (object l o) s in
      let room = subst Inside is.section_is inside in
      ap (byte_at (image_of l)) place
      ∙ subst Own (sym is.section_is)
      (own_stands l linked o t address at (site.start + k)
      (λ other d sequence m low high.
      let same = one_sequence l linked.given o t at.there other site (site.start + k) sequence is low high (omega arith)
      (omega (arith, below)) in
      none d (subst (λ s. Matches l o s d) same m))
      (omega (arith, below, room)) (subst Plain is.section_is plain))

  only_kept : HasOwnForm l (image_of l) o begins site → (c : Choice) → Matches l o site c → ⊥
  only_kept own c m = never_both c (m.bound, m.listed) (given c m) own

  only_given : (c : Choice) → MayReplace site.form c → HasForm (image_of l) begins site c → IsDue l o site c
  only_given c may form = of_test (is_kept (choice l o site)) refl
    where
      of_test : (x : Bool) → is_kept (choice l o site) ≡ x → IsDue l o site c
      of_test true e =
          absurd (never_both c may form (kept (λ d m.
          let changes = listed_changes site.form m.bound d m.listed in
          let same = ap is_kept (matched l o site d m) in
          let wrong : true ≡ false = sym e ∙ same ∙ changes in
          cc)))
      of_test false e =
          let m = matches l o site e in
          elim (same_or_apart site.reg site.form may.0 m.bound c (choice l o site) may.1 m.listed) [
            | inl same ↦ (choice l o site, m, same)
            | inr apart ↦
                absurd (apart.other (same_Some apart.first apart.second
                (sym (form apart.at apart.first apart.first_is apart.first_outside)
                ∙ given (choice l o site) m apart.at apart.second apart.second_is apart.second_outside)))
          ]

pub by_the_table : SequencesStandByTheTable
by_the_table l linked o t address site at is = record {
  given = given l linked o t address at site is;
  only_given = only_given l linked o t address at site is;
  kept = kept l linked o t address at site is;
  only_kept = only_kept l linked o t address at site is;
}

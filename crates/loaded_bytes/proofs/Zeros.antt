-- Data without bytes in its object's file is zero: it has no field and no sequence.
use Rattle.std.proofs.Common.{◌≡◌, ◌≢◌, ◌+◌, ◌<◌, ◌∙◌, ℕ, Bool, true, false, List, [], ◌∷◌, Some, None, length, refl}
use Rattle.std.proofs.Common.{sym, ap, subst, arith, inl, inr, if◌then◌else◌}
use Rattle.std.specs.Prelude.{nat_le, nat_lt, not, slice_index_or, ◌==◌, ◌&&◌}
use Rattle.std.specs.List.{Contains, find}
use Rattle.std.proofs.lemmas.Bool.Decides.{nat_tests}
use Rattle.std.proofs.lemmas.List.Elements.{All-contains}
use Rattle.elf_object.specs.declared.relocation.Relocation.{Relocation}
use Rattle.elf_object.specs.Classes.{IsKeptSection}
use Rattle.elf_object.specs.Faults.{IsObject, Stands}
use Rattle.elf_object.specs.Laws.{class_in_table, table_of_kept}
use Rattle.elf_object.specs.LawsOfParts.{class_of_section}
use Rattle.elf_object.specs.LawsOfSections.{class_holds, kept_as}
use Rattle.elf_object.specs.Lent.{kept_relocation_table, relocations, relocations_from, relocations_in, section_bytes}
use Rattle.elf_object.specs.Lent.{section_class}
use Rattle.elf_object.specs.Parts.{IsRela, entry_count, section}
use Rattle.link_core.proofs.LengthsInside.{form_some, is_code, is_object}
use Rattle.link_core.specs.Meant.{is_in_rewritten}
use Rattle.link_needs.specs.Given.{IsGiven}
use Rattle.link_needs.specs.Linking.{Linking, choice, object, sites_at}
use Rattle.link_needs.specs.Needs.{is_kept}
use Rattle.object_faults.specs.declared.class.SectionClass.TheVariants.{Executable, Writable}
use Rattle.object_rules.specs.declared.fault.FaultKind.TheVariants.{RelocTarget}
use Rattle.sequence_forms.specs.declared.places.Site.{Site}
use Rattle.sequence_match.specs.Faults.{IsSite}
use Rattle.loaded_bytes.proofs.Finds.{none_found}
use Rattle.link_tables.proofs.RelativesTables.{some_bytes}

-- ** no relocation

zero_kind : (b : List ℕ) (t : ℕ) → section_class b t ≡ Some (Writable false) → (section b t).kind ≡ 8
zero_kind b t e =
    let within = class_in_table b t (rw e refl) in
    (class_holds (section b t) (Writable false) (sym (class_of_section b t within) ∙ e)).1 refl

of_table : (b : List ℕ) → IsObject b → (r : ℕ) → IsRela b r → IsKeptSection b (section b r).info
    → (section b r).size ≢ 0 → (section b (section b r).info).kind ≡ 8 → ⊥
unfolding Stands
of_table b object r rela kept some empty =
    object RelocTarget r 0 (refl, rela, inr (kept, inr (inr (inr (inl (empty, some))))))

none_there : (b : List ℕ) → IsObject b → (t : ℕ) → section_class b t ≡ Some (Writable false)
    → 0 < length (relocations b t) → ⊥
unfolding relocations_in
none_there b object t e some =
    let r = kept_relocation_table b t in
    let xs = relocations_from b (section b r).offset 0 (entry_count (section b r)) in
    let is = listed r xs some in
    let table = table_of_kept b t is.0 in
    let K : ℕ → Type 0 = λ x. IsKeptSection b x in
    of_table b object r table.1 (subst K (sym table.2) table.0) (some_bytes b r is.1)
    (ap (λ s. (section b s).kind) table.2 ∙ zero_kind b t e)
  where
    listed : (r : ℕ) (xs : List Relocation) → 0 < length (if nat_lt 0 r then xs else []) → (0 < r) × (0 < length xs)
    listed r xs h = of_test (nat_lt 0 r) refl h
      where
        of_test : (t : Bool) → nat_lt 0 r ≡ t → 0 < length (if t then xs else []) → (0 < r) × (0 < length xs)
        of_test true e h = (grind (arith, nat_tests), h)
        of_test false e h = absurd (omega arith)

empty_list : {X : Type 0} (xs : List X) → (0 < length xs → ⊥) → xs ≡ []
empty_list [] none = refl
empty_list (x ∷ xs) none = absurd (none (omega arith))

pub no_relocations : (b : List ℕ) → IsObject b → (t : ℕ) → section_class b t ≡ Some (Writable false)
    → relocations b t ≡ []
no_relocations b object t e = empty_list (relocations b t) (none_there b object t e)

-- ** no byte

pub no_byte : (b : List ℕ) → IsObject b → (t k : ℕ) → section_class b t ≡ Some (Writable false)
    → slice_index_or (section_bytes b t) k 0 ≡ 0
no_byte b object t k e =
    ap (λ (xs : List ℕ). slice_index_or xs k 0)
    (empty_list (section_bytes b t) (λ some. let none = (kept_as b object t (Writable false) e).filled in omega
    (arith, none, some)))

-- ** no sequence: they stand in code

pub site_class : (l : Linking) → IsGiven l → (o : ℕ) (site : Site) → o < length l.objects → Contains (sites_at l o) site
    → section_class (object l o) site.section ≡ Some Executable
site_class l given o site there has =
    let b = object l o in
    let own = All-contains (IsSite b) (sites_at l o) site (given.are_sites o there).only has in
    let spelled = own.1.spelled.inside in
    let len = own.1.len_is in
    let some = form_some site.form in
    (is_code b (is_object l o given there) site.section (omega arith)).class_is

-- so none stands elsewhere
pub no_site : (l : Linking) → IsGiven l → (o t k : ℕ) → o < length l.objects
    → section_class (object l o) t ≢ Some Executable
    → find (is_in_rewritten l o t k) (sites_at l o) ≡ None
no_site l given o t k there other =
    none_found (is_in_rewritten l o t k) (sites_at l o) (λ site has passes.
    other (ap (section_class (object l o)) (sym (section_is site passes)) ∙ site_class l given o site there has))
  where
    section_is : (site : Site) → is_in_rewritten l o t k site ≡ true → site.section ≡ t
    section_is site e = same site.section t site.start k (site.start + site.len) (is_kept (choice l o site)) e
      where
        same : (a b c d e : ℕ) (kept : Bool) → ((a == b) && (nat_le c d && nat_lt d e) && not kept) ≡ true → a ≡ b
        same a b c d e kept h = grind (arith, nat_tests)

-- Fields and sequences lie in their sections, and the file of sections is the front of the whole.
use Rattle.std.proofs.Common.{◌≡◌, ◌≢◌, ◌+◌, ◌*◌, ◌<◌, ◌≤◌, ◌∙◌, ◌++◌, ◌-◌, ℕ, zero, suc, Bool, true, false, List, []}
use Rattle.std.proofs.Common.{Option, Some, None, length, inl, inr, refl, sym, ap, subst, arith, length-append}
use Rattle.std.specs.Prelude.{IsSome, map, nat_lt, if◌then◌else◌, ◌==◌}
use Rattle.std.specs.List.{Contains, range_with_len}
use Rattle.std.proofs.lemmas.Bool.{ltb-true}
use Rattle.std.proofs.lemmas.List.{append_assoc, append-nil}
use Rattle.std.proofs.lemmas.List.Elements.{All-contains}
use Rattle.object_rules.specs.declared.fault.FaultKind.TheVariants.{RelocTarget}
use Rattle.object_faults.specs.declared.class.SectionClass.{SectionClass}
use Rattle.object_faults.specs.declared.class.SectionClass.TheVariants.{Executable, Tls}
use Rattle.elf_object.specs.declared.relocation.Relocation.{Relocation}
use Rattle.elf_object.specs.Classes.{kept_class, IsKeptSection}
use Rattle.elf_object.specs.Faults.{IsObject, Stands}
use Rattle.elf_object.specs.Lawful.{IsLawful}
use Rattle.elf_object.specs.Laws.{table_of_kept}
use Rattle.elf_object.specs.LawsOfParts.{class_of_section}
use Rattle.elf_object.specs.LawsOfRelocations.{lawful as relocations_lawful}
use Rattle.elf_object.specs.LawsOfSections.{class_holds, kept_as}
use Rattle.elf_object.specs.Lent.{kept_relocation_table, relocation_at, relocations, relocations_from, relocations_in}
use Rattle.elf_object.specs.Lent.{section_bytes, section_class, section_size}
use Rattle.elf_object.specs.Parts.{section, entry_count}
use Rattle.elf_object.specs.Relocations.{field_width}
use Rattle.sequence_forms.specs.declared.forms.Form.{Form}
use Rattle.sequence_forms.specs.declared.places.Site.{Site}
use Rattle.sequence_match.specs.Faults.{IsSite, bytes_of_code, code_of}
use Rattle.sequence_forms.specs.Forms.{row}
use Rattle.placed_sections.specs.Files.{offset_of, sections_file}
use Rattle.tls_relocs.specs.Laid.{zeros}
use Rattle.link_needs.specs.Linking.{Linking, layout, object, sites_at}
use Rattle.link_needs.specs.Needs.{got_size, got_start, has_stub, stub_start}
use Rattle.link_core.specs.Bytes.{file, got_bytes, linked_section, stub_bytes, with_got, with_part}
use Rattle.link_needs.specs.Given.{IsGiven}
use Rattle.sequence_match.proofs.Rows.{first_inside}

-- what is given of object o
pub is_object : (l : Linking) (o : ℕ) → IsGiven l → o < length l.objects → IsObject (object l o)
is_object l o given there = given.are_objects o [] there

-- ** the whole

-- it begins with the file of sections
pub goes_on : (l : Linking)
    → (more : List ℕ) × (file l ≡ sections_file (layout l) (linked_section l) l.objects ++ more)
unfolding file
goes_on l = stub (has_stub l) (got (got_size l == 0))
  where
    sections : List ℕ
    sections = sections_file (layout l) (linked_section l) l.objects

    got : (t : Bool) → (more : List ℕ)
        × ((if t then sections else with_part l (got_start l) (got_bytes l) sections) ≡ sections ++ more)
    got true = ([], sym (append-nil sections))
    got false = (_, refl)

    stub : (t : Bool) → ((more : List ℕ) × (with_got l sections ≡ sections ++ more)) → (more : List ℕ)
        × ((if t then with_part l (stub_start l) (stub_bytes l) (with_got l sections) else with_got l sections)
        ≡ sections ++ more)
    stub true front =
        let gap = zeros (offset_of (layout l) (stub_start l) - length (with_got l sections)) in
        let last = gap ++ stub_bytes l in
        (front.0 ++ last, ap (λ xs. xs ++ last) front.1 ∙ append_assoc sections front.0 last)
    stub false front = front

pub file_longer : (l : Linking) → length (sections_file (layout l) (linked_section l) l.objects) ≤ length (file l)
file_longer l =
    let front = goes_on l in
    let sections = sections_file (layout l) (linked_section l) l.objects in
    omega (arith, ap length front.1, length-append sections front.0)

-- ** a section that has relocations has an address

-- a section of relocations that has one is not empty
some_if : (t : Bool) (f : ℕ → Relocation) (n : ℕ) (x : Relocation)
    → Contains (if t then map f (range_with_len 0 n) else []) x → (t ≡ true) × (0 < n)
some_if true f zero x has = absurd (omega arith)
some_if true f (suc n) x has = (refl, omega arith)
some_if false f n x has = absurd (omega arith)

pub table_some : (b : List ℕ) (r : ℕ) (x : Relocation) → Contains (relocations_in b r) x
    → (0 < r) × (0 < entry_count (section b r))
unfolding relocations_in relocations_from
table_some b r x has =
    let at = (section b r).offset in
    let is = some_if (nat_lt 0 r) (λ k. relocation_at (at + 24 * k) b) (entry_count (section b r)) x has in
    (ltb-true 0 r is.0, is.1)

-- its target has a class that has addresses: thread-local storage that is zero has no relocations
pub record IsRelocated (b : List ℕ) (t : ℕ) : Type 0 where
  pub class : SectionClass
  pub class_is : section_class b t ≡ Some class
  pub has_address : class ≢ Tls false

pub is_relocated : (b : List ℕ) → IsObject b → (t : ℕ) (x : Relocation) → Contains (relocations b t) x → IsRelocated b t
unfolding Stands
is_relocated b object t x has =
    let r = kept_relocation_table b t in
    let some = table_some b r x has in
    let table = table_of_kept b t some.0 in
    let known = class_of_section b t table.0.0 in
    of_class (kept_class (section b t)) refl known table.0.1
  where
    is_kept : IsKeptSection b t
    is_kept = (table_of_kept b t (table_some b (kept_relocation_table b t) x has).0).0

    empty : IsKeptSection b t → kept_class (section b t) ≡ Some (Tls false) → ⊥
    empty kept e =
        let r = kept_relocation_table b t in
        let some = table_some b r x has in
        let table = table_of_kept b t some.0 in
        let kind : (section b t).kind ≡ 8 = (class_holds (section b t) (Tls false) e).1 refl in
        let full : (section b r).size ≢ 0 = omega (arith, some.1) in
        let K : ℕ → Type 0 = λ i. IsKeptSection b i × ((section b i).kind ≡ 8) in
        let target : K (section b r).info = subst K (sym table.2) (kept, kind) in
        object RelocTarget r 0 (refl, table.1, inr (target.0, inr (inr (inr (inl (target.1, full))))))

    of_class : (class : Option SectionClass) → kept_class (section b t) ≡ class
        → section_class b t ≡ class → IsSome class → IsRelocated b t
    of_class None e is some = absurd (cc)
    of_class (Some class) e is some = record {
      class = class;
      class_is = is;
      has_address = λ none. empty is_kept (e ∙ ap Some none);
    }

-- a field lies in its section
pub field_fits : (l : Linking) (o t : ℕ) (r : Relocation) → IsGiven l → o < length l.objects
    → Contains (relocations (object l o) t) r → r.offset + field_width r.kind ≤ section_size (object l o) t
field_fits l o t r given there has =
    let b = object l o in
    (All-contains (IsLawful b t) (relocations b t) r (relocations_lawful b (is_object l o given there) t) has).inside

-- ** code

-- code that is not empty is an executable section, whole
pub record IsCode (b : List ℕ) (t : ℕ) : Type 0 where
  pub class_is : section_class b t ≡ Some Executable
  pub size_is : section_size b t ≡ length (code_of b t)

pub is_code : (b : List ℕ) → IsObject b → (t : ℕ) → 0 < length (code_of b t) → IsCode b t
unfolding code_of
is_code b object t some = of_class (section_class b t) refl some
  where
    of_class : (class : Option SectionClass) → section_class b t ≡ class
        → 0 < length (bytes_of_code class (section_bytes b t)) → IsCode b t
    of_class (Some Executable) e some = record {
      class_is = e;
      size_is = sym (kept_as b object t Executable e).filled
          ∙ ap (λ c. length (bytes_of_code c (section_bytes b t))) (sym e);
    }
    of_class class e some = absurd (omega arith)

-- a sequence has bytes
pub form_some : (form : Form) → 0 < length (row form).cells
form_some form = omega (arith, first_inside form)

-- what is given of a site
pub own_site : (l : Linking) (o : ℕ) (site : Site) → IsGiven l → o < length l.objects → Contains (sites_at l o) site
    → IsSite (object l o) site
own_site l o site given there has =
    All-contains (IsSite (object l o)) (sites_at l o) site (given.are_sites o there).only has

-- it lies in code
pub site_code : (l : Linking) (o : ℕ) (site : Site) → IsGiven l → o < length l.objects → Contains (sites_at l o) site
    → IsCode (object l o) site.section
site_code l o site given there has =
    let own = (own_site l o site given there has).1 in
    let spelled = own.spelled.inside in
    let len = own.len_is in
    let some = form_some site.form in
    is_code (object l o) (is_object l o given there) site.section (omega arith)

-- in its section
pub site_fits : (l : Linking) (o : ℕ) (site : Site) → IsGiven l → o < length l.objects → Contains (sites_at l o) site
    → site.start + site.len ≤ section_size (object l o) site.section
site_fits l o site given there has =
    let own = (own_site l o site given there has).1 in
    let spelled = own.spelled.inside in
    let len = own.len_is in
    let size = (site_code l o site given there has).size_is in
    omega arith

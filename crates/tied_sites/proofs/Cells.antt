-- The bytes in the place of a site that is kept: the instructions that its compiler wrote, with a linker's numbers in
-- their fields.
use Rattle.std.proofs.Common.{◌≡◌, ◌∙◌, ◌+◌, ◌-◌, ◌<◌, ◌≤◌, ℕ, Bool, true, false, List, Some, drop}
use Rattle.std.proofs.Common.{◌/◌, ◌==◌, if◌then◌else◌, length, map}
use Rattle.std.proofs.Common.{slice_index, take, refl, sym, ap, subst, arith}
use Rattle.std.specs.Prelude.{slice_get, slice_index_or, unwrap_or, IsTrue}
use Rattle.std.specs.List.{Contains, range_with_len}
use Rattle.std.proofs.lemmas.Grind.{same_number_lists}
use Rattle.std.proofs.lemmas.List.{get_or-drop, get_or-take, length-drop, length-take-le}
use Rattle.std.proofs.lemmas.List.Elements.{All-contains}
use Rattle.std.proofs.lemmas.List.FromFn.{get_or-map-range_with_len, length-map-range_with_len}
use Rattle.std.proofs.lemmas.Option.{slice_get-get_or, slice_get_within}
use Rattle.amd64_subset.specs.Spelling.{field_of}
use Rattle.elf_object.specs.declared.relocation.Relocation.{Relocation}
use Rattle.elf_object.specs.Lent.{relocations, section_bytes, section_class}
use Rattle.elf_object.specs.Relocations.{field_width}
use Rattle.elf_records.specs.Fields.{part_at}
use Rattle.link_core.proofs.Together.{together}
use Rattle.link_core.specs.Dynamic.{is_absolute}
use Rattle.link_needs.specs.Linking.{Linking, choice, object, sites_at}
use Rattle.link_needs.specs.Needs.{is_kept}
use Rattle.link_needs.specs.Plans.{IsUsable}
use Rattle.link_needs.specs.Values.{field, is_replaced}
use Rattle.loaded_bytes.proofs.FieldBytes.{loaded_is}
use Rattle.loaded_bytes.specs.Bytes.{loaded_byte, loaded_field}
use Rattle.loaded_bytes.specs.Laws.{IsInstanceOf, images_of}
use Rattle.loaded_modules.specs.declared.instance.Instance.{Instance}
use Rattle.object_faults.specs.declared.class.SectionClass.TheVariants.{Executable}
use Rattle.relax_sites.specs.Rows.{form_length}
use Rattle.sequence_forms.specs.declared.forms.Cell.{Cell}
use Rattle.sequence_forms.specs.declared.forms.Cell.TheVariants.{Is, Rex, ModRm, Field}
use Rattle.sequence_forms.specs.declared.forms.Form.{Form}
use Rattle.sequence_forms.specs.declared.forms.Form.TheVariants.{Gd, Ld, IeMov, IeAdd, GdInd, LdInd, DescLea, DescCall}
use Rattle.sequence_forms.specs.declared.places.Site.{Site}
use Rattle.sequence_forms.specs.Forms.{fits, register, row}
use Rattle.sequence_match.proofs.ApartSites.{sites_apart}
use Rattle.sequence_match.specs.Faults.{IsSite, code_of}
use Rattle.sequence_match.specs.Sites.{IsLiteral}
use Rattle.sequence_laws.proofs.Kept.{kept_read, kept_whole}
use Rattle.sequence_laws.specs.Instructions.{kept_instructions}
use Rattle.sequence_laws.specs.Laws.{AreRead, HasCells, number_in, second_in}
use Rattle.thread_blocks.specs.JobLoads.{job_loads}
use Rattle.tied_meaning.specs.Sites.{HasCode}
use Rattle.tls_relocs.specs.declared.fields.Field.TheVariants.{Empty}
use Rattle.tls_relocs.specs.Fields.{field_bytes}
use Rattle.whole_meaning.specs.Spots.{bias_of}
use Rattle.tied_sites.proofs.Bytes.{bare_byte}
use Rattle.tied_sites.proofs.Codes.{code_stands}
use Rattle.tied_sites.proofs.Places.{IsHere, byte_here, site_here, usable_here}

-- four bytes in a list are those of another of four
four_at : (code four : List ℕ) (at : ℕ) → length four ≡ 4 → at + 4 ≤ length code
    → ((j : ℕ) → j < 4 → slice_index code (at + j) ≡ slice_index four j) → part_at 4 (0 + at) code ≡ four
unfolding part_at
four_at code four at long inside same =
    let zero : 0 + at ≡ at = omega arith in
    let rest = length-drop at code in
    let size : length (take 4 (drop at code)) ≡ 4 = length-take-le 4 (drop at code) (omega (arith, rest, inside)) in
    ap (λ i. take 4 (drop i code)) zero
    ∙ same_number_lists (take 4 (drop at code)) four (size ∙ sym long) (λ j below.
    get_or-take 4 (drop at code) j 0 (omega (arith, size, below))
    ∙ get_or-drop at code j 0
    ∙ same j (omega (arith, size, below)))

-- a cell allows what it allowed, where it is literal and the byte is the same
still_fits : (cell : Cell) (own byte : ℕ) → (IsLiteral cell → byte ≡ own) → IsTrue (fits cell own)
    → IsTrue (fits cell byte)
still_fits (Is n) own byte same fit = subst (λ b. IsTrue (fits (Is n) b)) (sym (same tt)) fit
still_fits Rex own byte same fit = subst (λ b. IsTrue (fits Rex b)) (sym (same tt)) fit
still_fits ModRm own byte same fit = subst (λ b. IsTrue (fits ModRm b)) (sym (same tt)) fit
still_fits Field own byte same fit = fit

-- the register of a form is in its literal bytes
same_register : (form : Form) (own code : List ℕ) (start : ℕ)
    → ((k : ℕ) (cell : Cell) → slice_get (row form).cells k ≡ Some cell → IsLiteral cell
    → slice_index code (0 + k) ≡ slice_index own (start + k))
    → register form code 0 ≡ register form own start
unfolding row register
same_register Gd own code start same = refl
same_register Ld own code start same = refl
same_register IeMov own code start same =
    let zero : start + 0 ≡ start = omega arith in
    let first = same 0 Rex refl tt ∙ ap (slice_index own) zero in
    let second = same 2 ModRm refl tt in
    λ i. second i / 8 + (if first i == 0x4c then 8 else 0)
same_register IeAdd own code start same =
    let zero : start + 0 ≡ start = omega arith in
    let first = same 0 Rex refl tt ∙ ap (slice_index own) zero in
    let second = same 2 ModRm refl tt in
    λ i. second i / 8 + (if first i == 0x4c then 8 else 0)
same_register GdInd own code start same = refl
same_register LdInd own code start same = refl
same_register DescLea own code start same = refl
same_register DescCall own code start same = refl

code_is : (b : List ℕ) (s : ℕ) → section_class b s ≡ Some Executable → code_of b s ≡ section_bytes b s
unfolding code_of
code_is b s e = rw e refl

other_field : (l : Linking) (bias o t : ℕ) (r : Relocation) → is_absolute r.kind ≡ false
    → loaded_field l bias o t r ≡ field l o t r
other_field l bias o t r e = rw e refl

module _ (ls : List Linking) (l : Linking) (x : Instance) (is : IsInstanceOf ls l x) (o address : ℕ) (site : Site)
    (place : ℕ) (here : IsHere l (bias_of l.kind x.number) o address site place)
    (kept : is_kept (choice l o site) ≡ true) where
  abbrev own : List ℕ
  own = object l o

  abbrev xs : List Relocation
  xs = relocations (object l o) site.section

  -- what is loaded there
  pub loaded : List ℕ
  loaded =
      map (λ k. loaded_byte l (bias_of l.kind x.number) o site.section (site.start + k)) (range_with_len 0 site.len)

  loaded_long : length loaded ≡ site.len
  unfolding loaded
  loaded_long =
      length-map-range_with_len (λ k. loaded_byte l (bias_of l.kind x.number) o site.section
      (site.start + k)) 0 site.len

  loaded_at : (k : ℕ) → k < site.len
      → slice_index loaded k ≡ loaded_byte l (bias_of l.kind x.number) o site.section (site.start + k)
  unfolding loaded
  loaded_at k below =
      let zero : 0 + k ≡ k = omega arith in
      get_or-map-range_with_len (λ k. loaded_byte l (bias_of l.kind x.number) o site.section
      (site.start + k)) 0 site.len
      k k 0 below zero

  abbrev is_site : IsSite (object l o) site
  is_site = site_here ls l x is o address site place here

  abbrev fits_here : IsUsable (object l o) site
  fits_here = usable_here ls l x is o address site place here

  -- ** literal bytes

  literal_byte : (k : ℕ) (cell : Cell) → slice_get (row site.form).cells k ≡ Some cell → IsLiteral cell
      → slice_index loaded k ≡ slice_index (code_of (object l o) site.section) (site.start + k)
  literal_byte k cell e literal =
      let within = slice_get_within (row site.form).cells k cell e in
      let below : k < site.len = omega (arith, within, is_site.1.len_is) in
      let bare = (is_site.1.spelled.stands k cell e).1 literal in
      loaded_at k below
      ∙ bare_byte l is.given o here.at.there site here.own k below (bias_of l.kind x.number) kept
      (λ r has covers. bare has.0 r (slice_get-get_or xs has.0 r has.1 ∙ ap Some has.2) covers)
      ∙ ap (λ bytes. slice_index bytes (site.start + k)) (sym (code_is (object l o) site.section here.at.class_is))

  cells : HasCells loaded (row site.form).cells 0
  cells = record {
    inside = omega (arith, loaded_long, is_site.1.len_is);
    fit = λ k cell e.
        let zero : 0 + k ≡ k = omega arith in
        subst (λ i. IsTrue (fits cell (slice_index loaded i))) (sym zero)
        (still_fits cell (slice_index (code_of (object l o) site.section) (site.start + k)) (slice_index loaded k)
        (literal_byte k cell e) (is_site.1.spelled.stands k cell e).0);
  }

  register_is : register site.form loaded 0 ≡ site.reg
  register_is =
      same_register site.form (code_of (object l o) site.section) loaded site.start (λ k cell e literal.
      let zero : 0 + k ≡ k = omega arith in
      ap (slice_index loaded) zero ∙ literal_byte k cell e literal)
      ∙ sym is_site.1.reg_is

  -- ** fields

  module _ (r : Relocation) (has : Contains (relocations (object l o) site.section) r) (at : ℕ)
      (offset : r.offset ≡ site.start + at) (wide : field_width r.kind ≡ 4) (inside : at + 4 ≤ site.len) where
    stays : is_replaced l o r ≡ false
    stays = of_test (is_replaced l o r) refl
      where
        of_test : (t : Bool) → is_replaced l o r ≡ t → is_replaced l o r ≡ false
        of_test false e = e
        of_test true e =
            let k = site.start + at in
            let found = (together l o site.section r is.given is.links is.stray here.at.there has).inside e
            (site.start + at) (omega (arith, offset), omega (arith, offset, wide)) in
            let y = found.0 in
            let there = found.1 in
            let off = found.2 in
            let same : y ≡ site =
            sites_apart (object l o) y site (site.start + at)
            (All-contains (IsSite (object l o)) (sites_at l o) y (is.given.are_sites o here.at.there).only there.own)
            is_site there.section there.from there.to (omega arith) (omega (arith, inside)) in
            let choice_same : is_kept (choice l o y) ≡ is_kept (choice l o site) = ap (λ z. is_kept
            (choice l o z)) same in
            cc

    pub number_is : (four : List ℕ) → four ≡ field_bytes (unwrap_or (field l o site.section r) Empty) → length four ≡ 4
        → is_absolute r.kind ≡ false → number_in loaded 0 at ≡ field_of four
    number_is four same long other =
        ap field_of (four_at loaded four at long (omega (arith, loaded_long, inside)) (λ j below.
        let index : site.start + (at + j) - r.offset ≡ j = omega (arith, offset) in
        loaded_at (at + j) (omega (arith, below, inside))
        ∙ loaded_is l is.given is.links is.stray o site.section (site.start + (at + j)) here.at.there r has stays
        (omega (arith, offset)) (omega (arith, offset, wide, below)) (bias_of l.kind x.number)
        ∙ ap (λ f. slice_index_or (field_bytes (unwrap_or f Empty)) (site.start + (at + j) - r.offset) 0)
        (other_field l (bias_of l.kind x.number) o site.section r other)
        ∙ ap (λ i. slice_index_or (field_bytes (unwrap_or (field l o site.section r) Empty)) i 0) index
        ∙ ap (λ bytes. slice_index_or bytes j 0) (sym same)))

  -- ** the instructions

  pub kept_stands : (first second : ℕ) → number_in loaded 0 (row site.form).first_at ≡ first
      → second_in loaded 0 (row site.form).second ≡ second
      → HasCode (job_loads (images_of ls)) x place (kept_instructions site.form site.reg first second)
  kept_stands first second one two =
      let n = number_in loaded 0 (row site.form).first_at in
      let m = second_in loaded 0 (row site.form).second in
      let read = kept_read site.form loaded 0 cells in
      let ds = kept_instructions site.form site.reg first second in
      let few = kept_whole site.form site.reg first second in
      let same : kept_instructions site.form (register site.form loaded 0) n m ≡ ds =
      λ i. kept_instructions site.form (register_is i) (one i) (two i) in
      code_stands (job_loads (images_of ls)) x ds (drop (0 + form_length site.form) loaded) loaded place
      (subst (λ es. AreRead es (drop (0 + form_length site.form) loaded) loaded) same read) (λ k below.
      let inside : k < site.len = omega (arith, below, few, fits_here.whole) in
      byte_here ls l x is o address site place here k inside
      ∙ ap Some (sym (loaded_at k inside))
      ∙ sym (slice_get-get_or loaded k 0 (omega (arith, loaded_long, inside))))

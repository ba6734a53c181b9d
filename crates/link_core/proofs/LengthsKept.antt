-- What is written in a section leaves it as long as it was.
use Rattle.std.proofs.Common.{◌≡◌, ◌≢◌, ◌+◌, ◌<◌, ◌≤◌, ◌==◌, ◌∙◌, ℕ, ℤ, suc, Bool, true, false, List, [], ◌∷◌}
use Rattle.std.proofs.Common.{Option, IsSome, Some, None, length, refl, ap, subst, arith}
use Rattle.std.specs.Prelude.{pos, ◌+ℤ◌, ◌-ℤ◌, fold, unwrap_or, if◌then◌else◌}
use Rattle.std.specs.List.{Contains, filter}
use Rattle.std.proofs.lemmas.Bool.{eqb-true}
use Rattle.elf_records.specs.declared.relocation.RelocationKind.{RelocationKind}
use Rattle.elf_records.specs.declared.relocation.RelocationKind.TheVariants.{Nothing, Absolute64, Pc32, Plt32, GotPcRel}
use Rattle.elf_records.specs.declared.relocation.RelocationKind.TheVariants.{Absolute32, Absolute32Signed, TlsGd, TlsLd}
use Rattle.elf_records.specs.declared.relocation.RelocationKind.TheVariants.{DtpOff32, GotTpOff, TpOff32}
use Rattle.elf_records.specs.declared.relocation.RelocationKind.TheVariants.{GotPc32TlsDesc, TlsDescCall, GotPcRelX}
use Rattle.elf_records.specs.declared.relocation.RelocationKind.TheVariants.{RexGotPcRelX}
use Rattle.elf_records.specs.Laws.{length-bytes_of, length-splice}
use Rattle.elf_object.specs.Relocations.{field_width}
use Rattle.elf_object.specs.declared.relocation.Relocation.{Relocation}
use Rattle.elf_object.specs.Lent.{relocations, section_size}
use Rattle.tls_relocs.specs.declared.fields.Field.{Field}
use Rattle.tls_relocs.specs.declared.fields.Field.TheVariants.{Empty}
use Rattle.tls_relocs.specs.Fields.{field_bytes}
use Rattle.tls_relocs.specs.Values.{fits_signed, fits_unsigned, signed_field, stored_field, word32}
use Rattle.placed_sections.specs.Files.{AreWhole, memory_bytes}
use Rattle.placed_sections.specs.Laws.{AreLaid}
use Rattle.placed_sections.proofs.Kept.{long_as_memory}
use Rattle.sequence_match.specs.Sites.{first_of}
use Rattle.relax_sites.specs.declared.choices.Choice.{Choice}
use Rattle.relax_sites.specs.declared.choices.Choice.TheVariants.{Keep, GdLe, GdIe, IeLe, DescLe, DescIe}
use Rattle.relax_sites.specs.declared.rows.NewField.{NewField}
use Rattle.relax_sites.specs.ChoiceLaws.{IsChoiceOf}
use Rattle.relax_sites.specs.Rewriting.{rewritten}
use Rattle.relax_sites.specs.Rows.{form_length, new_field}
use Rattle.relax_sites.proofs.Tables.{field_end, own_choice, stays}
use Rattle.sequence_forms.specs.declared.forms.Form.{Form}
use Rattle.sequence_forms.specs.declared.forms.Form.TheVariants.{Gd, IeMov, IeAdd, GdInd, DescLea}
use Rattle.sequence_forms.specs.declared.places.Site.{Site}
use Rattle.link_faults.specs.declared.binding.Binding.{Binding}
use Rattle.link_needs.specs.Given.{FitsTable, IsGiven}
use Rattle.link_needs.specs.Linking.{Linking, binding, choice, chosen, object, sites_at}
use Rattle.link_needs.specs.Needs.{new_relocation}
use Rattle.link_core.specs.Bytes.{linked, linked_section, with_field, with_new_field, with_site, with_value}
use Rattle.link_needs.specs.Values.{field, is_replaced}
use Rattle.link_core.proofs.LengthsInside.{field_fits, own_site, site_fits}

-- ** how many bytes a field has

-- a field that holds its value is as wide as its type says
abbrev pub IsExact : ℕ → Option Field → Type 0
IsExact n value = IsSome value → length (field_bytes (unwrap_or value Empty)) ≡ n

four_exact : (fits : Bool) (z : ℤ) → IsExact 4 (word32 fits z)
four_exact true z some = length-bytes_of 4 _
four_exact false z some = absurd (cc)

signed_exact : (z : ℤ) → IsExact 4 (signed_field z)
signed_exact z = four_exact (fits_signed z) z

pub field_exact : (kind : RelocationKind) (s : ℕ) (a : ℤ) (p g : ℕ)
    → IsExact (field_width kind) (stored_field kind s a p g)
field_exact Nothing s a p g some = refl
field_exact Absolute64 s a p g some = length-bytes_of 8 _
field_exact Pc32 s a p g some = signed_exact ((pos s +ℤ a) -ℤ pos p) some
field_exact Plt32 s a p g some = signed_exact ((pos s +ℤ a) -ℤ pos p) some
field_exact GotPcRel s a p g some = signed_exact ((pos g +ℤ a) -ℤ pos p) some
field_exact Absolute32 s a p g some = four_exact (fits_unsigned (pos s +ℤ a)) (pos s +ℤ a) some
field_exact Absolute32Signed s a p g some = signed_exact (pos s +ℤ a) some
field_exact TlsGd s a p g some = signed_exact ((pos g +ℤ a) -ℤ pos p) some
field_exact TlsLd s a p g some = signed_exact ((pos g +ℤ a) -ℤ pos p) some
field_exact DtpOff32 s a p g some = signed_exact ((pos s +ℤ a) -ℤ pos g) some
field_exact GotTpOff s a p g some = signed_exact ((pos g +ℤ a) -ℤ pos p) some
field_exact TpOff32 s a p g some = signed_exact ((pos s +ℤ a) -ℤ pos g) some
field_exact GotPc32TlsDesc s a p g some = signed_exact ((pos g +ℤ a) -ℤ pos p) some
field_exact TlsDescCall s a p g some = refl
field_exact GotPcRelX s a p g some = signed_exact ((pos g +ℤ a) -ℤ pos p) some
field_exact RexGotPcRelX s a p g some = signed_exact ((pos g +ℤ a) -ℤ pos p) some

-- it has as many bytes as its type says, or none where the value does not fit it
abbrev pub IsAtMost : ℕ → Option Field → Type 0
IsAtMost n value = length (field_bytes (unwrap_or value Empty)) ≤ n

at_most : (n : ℕ) (value : Option Field) → IsExact n value → IsAtMost n value
at_most n None exact = omega arith
at_most n (Some value) exact = omega (arith, exact refl)

pub field_at_most : (kind : RelocationKind) (s : ℕ) (a : ℤ) (p g : ℕ)
    → IsAtMost (field_width kind) (stored_field kind s a p g)
field_at_most kind s a p g = at_most (field_width kind) (stored_field kind s a p g) (field_exact kind s a p g)

pub field_few : (l : Linking) (o t : ℕ) (r : Relocation) → IsAtMost (field_width r.kind) (field l o t r)
unfolding field
field_few l o t r = field_at_most r.kind _ r.addend _ _

-- ** one after another

-- steps that keep what holds of a list
pub fold_has : {X : Type 0} (P : List ℕ → Type 0) (f : List ℕ → X → List ℕ) (xs : List X) (now : List ℕ)
    → ((x : X) → Contains xs x → (now : List ℕ) → P now → P (f now x)) → P now → P (fold f now xs)
fold_has P f [] now each has = has
fold_has P f (x ∷ xs) now each has =
    fold_has P f xs (f now x) (λ y among. each y (suc among.0, omega arith, among.2))
    (each x (0, omega arith, refl) now has)

-- a length
pub fold_keeps : {X : Type 0} (f : List ℕ → X → List ℕ) (n : ℕ) (xs : List X) (file : List ℕ)
    → ((x : X) → Contains xs x → (now : List ℕ) → length now ≡ n → length (f now x) ≡ n)
    → length file ≡ n → length (fold f file xs) ≡ n
fold_keeps f n = fold_has (λ now. length now ≡ n) f

-- steps over what a filter lets through are steps over all, of which some do nothing
pub fold_filter : {X : Type 0} (test : X → Bool) (f : List ℕ → X → List ℕ) (now : List ℕ) (xs : List X)
    → fold f now (filter test xs) ≡ fold (λ now x. if test x then f now x else now) now xs
fold_filter test f now [] = refl
fold_filter {X = X} test f now (x ∷ xs) =
    of_test (test x) (fold_filter test f (f now x) xs) (fold_filter test f now xs)
  where
    some : List ℕ → X → List ℕ
    some now y = if test y then f now y else now

    of_test : (t : Bool) → fold f (f now x) (filter test xs) ≡ fold some (f now x) xs
        → fold f now (filter test xs) ≡ fold some now xs
        → fold f now (if t then x ∷ filter test xs else filter test xs) ≡ fold some (if t then f now x else now) xs
    of_test true with_it without = with_it
    of_test false with_it without = without

-- ** one field

pub field_keeps : (l : Linking) (o t : ℕ) (bytes : List ℕ) (r : Relocation)
    → r.offset + field_width r.kind ≤ length bytes → length (with_field l o t bytes r) ≡ length bytes
field_keeps l o t bytes r inside = of_test (is_replaced l o r)
  where
    of_test : (test : Bool) → length (if test then bytes else with_value r.offset (field l o t r) bytes) ≡ length bytes
    of_test true = refl
    of_test false =
        length-splice r.offset (field_bytes (unwrap_or (field l o t r) Empty)) bytes (omega (arith, field_few l o t r))

-- ** one sequence

-- what is chosen is of its form
pub chosen_own : (l : Linking) (form : Form) (bound : Option Binding) → chosen l form bound ≢ Keep
    → IsChoiceOf form (chosen l form bound)
chosen_own l form None changes = absurd (changes refl)
chosen_own l form (Some bound) changes = own_choice form bound l.kind l.relax

pub own_choice_of : (l : Linking) (o : ℕ) (site : Site) → choice l o site ≢ Keep
    → IsChoiceOf site.form (choice l o site)
unfolding choice
own_choice_of l o site = chosen_own l site.form (binding l o (first_of site))

rewritten_keeps : (site : Site) (choice : Choice) (now : List ℕ) → (choice ≢ Keep → IsChoiceOf site.form choice)
    → site.start + site.len ≤ length now → site.len ≡ form_length site.form
    → length (rewritten site choice now) ≡ length now
rewritten_keeps site Keep now own inside whole = refl
rewritten_keeps site choice now own inside whole = (stays now site choice (record {
  inside = inside;
  whole = whole;
  own = own (λ h. cc);
  changes = λ h. cc;
})).length-is

-- the field of a row
of_field : (row f : NewField) → Some row ≡ Some f → field_width row.kind ≡ 4 → field_width f.kind ≡ 4
of_field row f e wide = let same : row ≡ f = cc in subst (λ (x : NewField). field_width x.kind ≡ 4) same wide

pub new_width : (form : Form) (choice : Choice) (f : NewField) → new_field form choice ≡ Some f → field_width f.kind ≡ 4
new_width Gd GdLe f is = of_field _ f is refl
new_width GdInd GdLe f is = of_field _ f is refl
new_width Gd GdIe f is = of_field _ f is refl
new_width GdInd GdIe f is = of_field _ f is refl
new_width IeMov IeLe f is = of_field _ f is refl
new_width IeAdd IeLe f is = of_field _ f is refl
new_width DescLea DescLe f is = of_field _ f is refl
new_width DescLea DescIe f is = of_field _ f is refl
new_width form choice f is = absurd cc

-- it lies in the row
pub new_field_in : (l : Linking) (o : ℕ) (site : Site) (f : NewField) → site.len ≡ form_length site.form
    → new_field site.form (choice l o site) ≡ Some f
    → f.at + length (field_bytes (unwrap_or (field l o site.section (new_relocation site f)) Empty)) ≤ site.len
new_field_in l o site f whole is =
    let end = (field_end site.form (choice l o site) 0 f is).end in
    let width = new_width site.form (choice l o site) f is in
    let few = field_few l o site.section (new_relocation site f) in
    omega (arith, few)

pub site_keeps : (l : Linking) (o : ℕ) (bytes : List ℕ) (site : Site) → site.start + site.len ≤ length bytes
    → site.len ≡ form_length site.form → length (with_site l o bytes site) ≡ length bytes
unfolding with_site
site_keeps l o bytes site inside whole = of_new (new_field site.form (choice l o site)) refl ∙ row
  where
    made : List ℕ
    made = rewritten site (choice l o site) bytes

    row : length (rewritten site (choice l o site) bytes) ≡ length bytes
    row = rewritten_keeps site (choice l o site) bytes (own_choice_of l o site) inside whole

    of_new : (new : Option NewField) → new_field site.form (choice l o site) ≡ new
        → length (with_new_field l o site new made) ≡ length made
    of_new None e = refl
    of_new (Some f) e =
        length-splice (site.start + f.at)
        (field_bytes (unwrap_or (field l o site.section (new_relocation site f)) Empty)) made
        (omega (arith, row, new_field_in l o site f whole e))

-- ** a section

pub linked_keeps : (l : Linking) → IsGiven l → (o t : ℕ) → o < length l.objects → (bytes : List ℕ)
    → length bytes ≡ section_size (object l o) t → length (linked l o t bytes) ≡ section_size (object l o) t
linked_keeps l given o t there bytes is =
    let n = section_size (object l o) t in
    let in_it = λ (site : Site). site.section == t in
    let filled = fold (with_field l o t) bytes (relocations (object l o) t) in
    ap length (fold_filter in_it (with_site l o) filled (sites_at l o))
    ∙ fold_keeps (λ now site. if in_it site then with_site l o now site else now) n (sites_at l o) filled
    (λ site has now long. of_test site has now long (site.section == t) refl)
    (fold_keeps (with_field l o t) n (relocations (object l o) t) bytes
    (λ r has now long.
    let fits = field_fits l o t r given there has in
    field_keeps l o t now r (omega (arith, fits, long)) ∙ long) is)
  where
    of_test : (site : Site) → Contains (sites_at l o) site → (now : List ℕ) → length now ≡ section_size (object l o) t
        → (x : Bool) → (site.section == t) ≡ x
        → length (if x then with_site l o now site else now) ≡ section_size (object l o) t
    of_test site has now long true e =
        let fits = site_fits l o site given there has in
        let same = ap (section_size (object l o)) (eqb-true site.section t e) in
        site_keeps l o now site (omega (arith, fits, same, long)) (own_site l o site given there has).1.len_is ∙ long
    of_test site has now long false e = long

-- each section, once it is linked, has as many bytes as in memory
pub linked_whole : (l : Linking) → IsGiven l → AreWhole (linked_section l) l.objects
unfolding linked_section
linked_whole l given o t there =
    linked_keeps l given o t there (memory_bytes (object l o) t) (long_as_memory (object l o) t)

pub are_laid : (l : Linking) → IsGiven l → FitsTable l → AreLaid l.kind (linked_section l) l.objects
are_laid l given limits = record {
  lawful = limits.lawful;
  are_objects = given.are_objects;
  whole = linked_whole l given;
}

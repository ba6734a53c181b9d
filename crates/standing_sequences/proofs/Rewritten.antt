-- Where the table gives a sequence another form, that form stands in its place.
use Rattle.std.proofs.Common.{◌≡◌, ◌+◌, ◌-◌, ◌<◌, ◌≤◌, ◌∙◌, ℕ, false, List, Option, Some, None, length, inl, inr}
use Rattle.std.proofs.Common.{refl, sym, ap, subst, arith}
use Rattle.std.specs.Prelude.{slice_get, slice_index_or, unwrap_or}
use Rattle.std.specs.List.{Contains, find}
use Rattle.std.proofs.lemmas.Option.{slice_get-get_or, slice_get_within}
use Rattle.elf_object.specs.Lent.{relocations, section_bytes, section_size}
use Rattle.elf_records.specs.Fields.{splice}
use Rattle.elf_records.specs.Laws.{length-splice}
use Rattle.link_core.proofs.LengthsKept.{new_width}
use Rattle.link_core.proofs.NewFields.{new_fields_fit}
use Rattle.link_core.proofs.StandingPlaces.{site_in}
use Rattle.link_core.specs.Images.{image_of}
use Rattle.link_core.specs.Meant.{field_byte, is_in_field, meant_byte, rewritten_bytes, site_byte}
use Rattle.link_needs.specs.Linking.{Linking, choice, object, sites_at}
use Rattle.link_needs.specs.Needs.{is_kept, new_relocation}
use Rattle.link_needs.specs.Values.{field}
use Rattle.relax_sites.proofs.Tables.{field_end, row_length}
use Rattle.relax_sites.specs.declared.choices.Choice.{Choice}
use Rattle.relax_sites.specs.declared.rows.NewField.{NewField}
use Rattle.relax_sites.specs.Rows.{form_length, new_bytes, new_field}
use Rattle.sequence_forms.specs.declared.places.Site.{Site}
use Rattle.tls_relocs.specs.declared.fields.Field.{Field}
use Rattle.tls_relocs.specs.declared.fields.Field.TheVariants.{Empty}
use Rattle.tls_relocs.specs.Elements.{slice_get-splice_after, slice_get-splice_before}
use Rattle.tls_relocs.specs.Fields.{field_bytes}
use Rattle.standing_sequences.specs.Bytes.{HasForm, IsFilled, IsOutside, IsSectionAt, Stand}
use Rattle.standing_sequences.specs.Bytes.{byte_at}
use Rattle.standing_sequences.specs.Laws.{IsLinked, RewrittenFormsStand}
use Rattle.standing_sequences.specs.Table.{IsSequence, Matches}
use Rattle.standing_sequences.proofs.Choosing.{listed_changes, listed_own, matched}
use Rattle.standing_sequences.proofs.Covering.{own_site, rewritten_found}
use Rattle.standing_sequences.proofs.Kept.{image_byte, limits}
use Rattle.standing_sequences.proofs.Values.{field_long}
use Rattle.link_core.proofs.StandingSites.{kept_not}

module _ (l : Linking) (linked : IsLinked l) (o t address : ℕ) (at : IsSectionAt l o t address) (site : Site)
    (is : IsSequence l o t site) (c : Choice) (m : Matches l o site c) where
  off : is_kept (choice l o site) ≡ false
  off = ap is_kept (matched l o site c m) ∙ listed_changes site.form m.bound c m.listed

  -- where the site lies
  has : Contains (sites_at l o) site
  has = own_site l linked.given o t at.there site is

  inside : site.start + site.len ≤ section_size (object l o) t
  inside =
      subst (λ s. site.start + site.len ≤ section_size (object l o) s) is.section_is
      (site_in l linked.given (limits l linked o t address at) o site at.there has).fits

  -- ** its bytes

  row_long : length (new_bytes site.form c site.reg) ≡ form_length site.form
  row_long =
      let e = listed_changes site.form m.bound c m.listed in
      row_length site.form c site.reg (listed_own site.form m.bound c m.listed) (kept_not c e)

  value_of : (new : NewField) → new_field site.form c ≡ Some new
      → (value : Field) × (field l o site.section (new_relocation site new) ≡ Some value)
  value_of new e =
      new_fields_fit l o site new linked.given linked.links at.there has
      (ap (new_field site.form) (matched l o site c m) ∙ e)

  -- a field has four bytes, and ends with its row
  value_long : (new : NewField) (e : new_field site.form c ≡ Some new) (value : Field)
      → field l o site.section (new_relocation site new) ≡ Some value → length (field_bytes value) ≡ 4
  value_long new e value found =
      field_long l o site.section (new_relocation site new) value found ∙ new_width site.form c new e

  abbrev row : List ℕ
  row = new_bytes site.form c site.reg

  abbrev filled : Option NewField → List ℕ
  filled None = row
  filled (Some new) =
      splice new.at (field_bytes (unwrap_or (field l o site.section (new_relocation site new)) Empty)) row

  filled_is : (new : Option NewField) → new_field site.form c ≡ new → IsFilled l o site row new (filled new)
  filled_is None e = refl
  filled_is (Some new) e =
      let v = value_of new e in
      (v.0, v.1, ap (λ value. splice new.at (field_bytes (unwrap_or value Empty)) row) v.1)

  filled_long : (new : Option NewField) → new_field site.form c ≡ new → length (filled new) ≡ form_length site.form
  filled_long None e = row_long
  filled_long (Some new) e =
      let v = value_of new e in
      let long = value_long new e v.0 v.1 in
      let end = (field_end site.form c site.reg new e).end in
      ap (λ value. length (splice new.at (field_bytes (unwrap_or value Empty)) row)) v.1
      ∙ length-splice new.at (field_bytes v.0) row (omega (arith, long, end, row_long))
      ∙ row_long

  pub bytes : List ℕ
  bytes = filled (new_field site.form c)

  bytes_are : rewritten_bytes l o site ≡ bytes
  unfolding rewritten_bytes bytes
  bytes_are =
      ap (λ d. row_of d (new_field site.form d)) (matched l o site c m) ∙ of_new (new_field site.form c)
    where
      row_of : Choice → Option NewField → List ℕ
      row_of d None = new_bytes site.form d site.reg
      row_of d (Some new) =
          splice new.at (field_bytes (unwrap_or (field l o site.section (new_relocation site new)) Empty))
          (new_bytes site.form d site.reg)

      of_new : (new : Option NewField) → row_of c new ≡ filled new
      of_new None = refl
      of_new (Some new) = refl

  pub are_of_form : IsFilled l o site (new_bytes site.form c site.reg) (new_field site.form c) bytes
  unfolding bytes
  are_of_form = filled_is (new_field site.form c) refl

  pub long : length bytes ≡ site.len
  unfolding bytes
  long = filled_long (new_field site.form c) refl ∙ sym is.spelled.1.len_is

  -- ** they stand

  meant : (k : ℕ) → k < site.len → meant_byte l o t (site.start + k) ≡ slice_index_or bytes k 0
  unfolding meant_byte
  meant k below =
      let index : site.start + k - site.start ≡ k = omega arith in
      let other = field_byte l o t (site.start + k)
      (find (is_in_field l o (site.start + k)) (relocations (object l o) t))
      (slice_index_or (section_bytes (object l o) t) (site.start + k) 0) in
      ap (λ found. site_byte l o (site.start + k) found other)
      (rewritten_found l linked.given o t at.there site (site.start + k) is off (omega arith) (omega (arith, below)))
      ∙ ap (λ i. slice_index_or (rewritten_bytes l o site) i 0) index
      ∙ ap (λ xs. slice_index_or xs k 0) bytes_are

  pub they_stand : Stand (image_of l) (address + site.start) bytes
  they_stand k below =
      let place : address + site.start + k ≡ address + (site.start + k) = omega arith in
      let few : k < site.len = omega (arith, below, long) in
      ap (byte_at (image_of l)) place
      ∙ image_byte l linked o t address at (site.start + k) (omega (arith, few, inside))
      ∙ ap Some (meant k few)
      ∙ sym (slice_get-get_or bytes k 0 below)

  -- ** so the form is there

  same_outside : (new : Option NewField) → new_field site.form c ≡ new → (k byte : ℕ) → slice_get row k ≡ Some byte
      → IsOutside new k → slice_get (filled new) k ≡ Some byte
  same_outside None e k byte h outside = h
  same_outside (Some new) e k byte h outside =
      let v = value_of new e in
      let size = value_long new e v.0 v.1 in
      let end = (field_end site.form c site.reg new e).end in
      let room : new.at + length (field_bytes v.0) ≤ length row = omega (arith, size, end, row_long) in
      ap (λ value. slice_get (splice new.at (field_bytes (unwrap_or value Empty)) row) k) v.1
      ∙ elim outside [
        | inl before ↦ slice_get-splice_before new.at k (field_bytes v.0) row room before
        | inr past ↦ slice_get-splice_after new.at k (field_bytes v.0) row room (omega (arith, size, past))
      ]
      ∙ h

  pub has_form : HasForm (image_of l) (address + site.start) site c
  unfolding bytes
  has_form k byte h outside =
      let few = slice_get_within row k byte h in
      they_stand k (omega (arith, few, filled_long (new_field site.form c) refl, row_long))
      ∙ same_outside (new_field site.form c) refl k byte h outside

pub rewritten_forms_stand : RewrittenFormsStand
rewritten_forms_stand l linked o t address site choice at is m = (
  bytes l linked o t address at site is choice m,
  are_of_form l linked o t address at site is choice m,
  long l linked o t address at site is choice m,
  they_stand l linked o t address at site is choice m,
)

-- The bytes in the place of a rewritten site are its row, with the number of its field.
use Rattle.std.proofs.Common.{◌≡◌, ◌≢◌, ◌∙◌, ◌+◌, ◌<◌, ◌≤◌, ℕ, false, List, Option, Some, None, drop}
use Rattle.std.proofs.Common.{length, refl, sym, ap, subst, arith}
use Rattle.std.specs.Prelude.{unwrap_or}
use Rattle.std.proofs.lemmas.List.{take_all}
use Rattle.std.proofs.lemmas.Option.{slice_get-get_or}
use Rattle.amd64_subset.specs.Spelling.{field_of}
use Rattle.elf_records.specs.Fields.{part_at}
use Rattle.elf_records.specs.Laws.{length-splice}
use Rattle.link_core.specs.Meant.{rewritten_bytes, row_with}
use Rattle.link_needs.proofs.ChoiceLemmas.{choice_own}
use Rattle.link_needs.specs.Linking.{Linking, choice}
use Rattle.link_needs.specs.Needs.{is_kept, new_relocation}
use Rattle.link_needs.specs.Values.{field}
use Rattle.loaded_bytes.specs.Laws.{IsInstanceOf, images_of}
use Rattle.loaded_modules.specs.declared.instance.Instance.{Instance}
use Rattle.relax_sites.proofs.Tables.{field_end, row_length}
use Rattle.relax_sites.specs.declared.choices.Choice.{Choice}
use Rattle.relax_sites.specs.declared.rows.NewField.{NewField}
use Rattle.relax_sites.specs.Rows.{field_of_zeros, form_length, new_bytes, new_field}
use Rattle.sequence_forms.specs.declared.places.Site.{Site}
use Rattle.sequence_laws.proofs.Rewritten.{rewritten_read, rewritten_whole}
use Rattle.sequence_laws.specs.Instructions.{new_instructions}
use Rattle.sequence_laws.specs.Laws.{AreRead, filled}
use Rattle.thread_blocks.specs.JobLoads.{job_loads}
use Rattle.tied_meaning.specs.Sites.{HasCode}
use Rattle.tls_relocs.specs.declared.fields.Field.TheVariants.{Empty}
use Rattle.tls_relocs.specs.Fields.{field_bytes}
use Rattle.whole_meaning.specs.Spots.{bias_of}
use Rattle.tied_sites.proofs.Bytes.{rewritten_byte}
use Rattle.tied_sites.proofs.Codes.{code_stands}
use Rattle.tied_sites.proofs.Places.{IsHere, byte_here, usable_here}
use Rattle.link_core.proofs.StandingSites.{kept_not}

-- the four bytes of a site's new field; zeros where it has none
abbrev pub four_of : Linking → ℕ → Site → Option NewField → List ℕ
four_of l o site None = field_of_zeros
four_of l o site (Some f) = field_bytes (unwrap_or (field l o site.section (new_relocation site f)) Empty)

module _ (l : Linking) (o : ℕ) (site : Site) (whole : site.len ≡ form_length site.form)
    (off : is_kept (choice l o site) ≡ false) where
  abbrev own : Choice
  own = choice l o site

  row_long : length (new_bytes site.form own site.reg) ≡ form_length site.form
  row_long = row_length site.form own site.reg (choice_own l o site) (kept_not own off)

  -- the row, filled
  row_is : (new : Option NewField)
      → row_with l o site new ≡ filled new (four_of l o site new) (new_bytes site.form own site.reg)
  row_is None = refl
  row_is (Some f) = refl

  row_whole : (new : Option NewField) → new_field site.form own ≡ new → length (four_of l o site new) ≡ 4
      → length (row_with l o site new) ≡ form_length site.form
  row_whole None e four = row_long
  row_whole (Some f) e four =
      let end = (field_end site.form own site.reg f e).end in
      length-splice f.at (four_of l o site (Some f)) (new_bytes site.form own site.reg) (omega
      (arith, four, end, row_long))
      ∙ row_long

  abbrev new_four : List ℕ
  new_four = four_of l o site (new_field site.form own)

  module _ (four : length new_four ≡ 4) (low : site.reg ≤ 15) where
    bytes_long : length (rewritten_bytes l o site) ≡ form_length site.form
    unfolding rewritten_bytes
    bytes_long = row_whole (new_field site.form own) refl four

    part_is : part_at (form_length site.form) 0 (rewritten_bytes l o site)
        ≡ filled (new_field site.form own) new_four (new_bytes site.form own site.reg)
    unfolding part_at rewritten_bytes
    part_is =
        take_all (form_length site.form) (rewritten_bytes l o site) (omega (arith, bytes_long))
        ∙ row_is (new_field site.form own)

    bytes_read : AreRead (new_instructions site.form own site.reg (field_of new_four))
        (drop (0 + form_length site.form) (rewritten_bytes l o site)) (rewritten_bytes l o site)
    bytes_read =
        rewritten_read site.form own site.reg new_four (rewritten_bytes l o site) 0 (choice_own l o site)
        (kept_not own off)
        low four part_is

-- the row's instructions stand at the site's place, with the number that is read in their field
module _ (ls : List Linking) (l : Linking) (x : Instance) (is : IsInstanceOf ls l x) (o address : ℕ) (site : Site)
    (place : ℕ) (here : IsHere l (bias_of l.kind x.number) o address site place)
    (off : is_kept (choice l o site) ≡ false) where
  pub row_stands : (four : List ℕ) → four ≡ four_of l o site (new_field site.form (choice l o site))
      → length four ≡ 4
      → HasCode (job_loads (images_of ls)) x place (new_instructions site.form (choice l o site) site.reg
      (field_of four))
  row_stands four same long =
      let fits = usable_here ls l x is o address site place here in
      let four_long : length (new_four l o site fits.whole off) ≡ 4 = ap length (sym same) ∙ long in
      let bytes = rewritten_bytes l o site in
      let size = bytes_long l o site fits.whole off four_long fits.register in
      let read = bytes_read l o site fits.whole off four_long fits.register in
      let ds = new_instructions site.form (choice l o site) site.reg (field_of four) in
      let few = rewritten_whole site.form (choice l o site) site.reg (field_of four) (choice_own l o site)
      (kept_not (choice l o site) off) in
      code_stands (job_loads (images_of ls)) x ds (drop (0 + form_length site.form) bytes) bytes place
      (subst (λ f. AreRead (new_instructions site.form (choice l o site) site.reg (field_of f))
      (drop (0 + form_length site.form) bytes) bytes) (sym same) read) (λ k below.
      let inside : k < site.len = omega (arith, below, few, fits.whole) in
      byte_here ls l x is o address site place here k inside
      ∙ ap Some (rewritten_byte l is.given o here.at.there site here.own k inside (bias_of l.kind x.number) off)
      ∙ sym (slice_get-get_or bytes k 0 (omega (arith, size, below, few))))

-- The bytes of the stub, as an instance has them.
use Rattle.std.proofs.Common.{◌≡◌, ◌∙◌, ◌+◌, ◌-◌, ◌≤◌, ℕ, true, List, [], ◌∷◌, ◌++◌, None, Some, length, map}
use Rattle.std.proofs.Common.{refl, sym, ap, arith, subst}
use Rattle.std.specs.Prelude.{option_map, slice_get, slice_index_or}
use Rattle.std.specs.List.{find}
use Rattle.std.specs.Option.{option_or}
use Rattle.std.proofs.lemmas.List.{length-append}
use Rattle.std.proofs.lemmas.List.Elements.{All-contains}
use Rattle.std.proofs.lemmas.List.Folds.{find-append}
use Rattle.std.proofs.lemmas.Option.{get_or_from_slice_get, slice_get-map, slice_get_within}
use Rattle.elf_records.specs.Fields.{part_at}
use Rattle.guest_operands.specs.declared.space.Access.TheVariants.{Run}
use Rattle.guest_operands.specs.Ranges.{Range, byte_in}
use Rattle.image_file.specs.declared.part.PartClass.TheVariants.{Executable}
use Rattle.image_file.specs.Spelled.{Part}
use Rattle.image_writer.proofs.SameBytes.{part_length}
use Rattle.image_writer.specs.declared.outline.PartPlace.{PartPlace}
use Rattle.image_writer.specs.Contents.{part_in}
use Rattle.image_writer.specs.Outlined.{no_part}
use Rattle.image_writer.specs.Page.{file_offset}
use Rattle.image_writer.specs.Tables.{finished, tables_part}
use Rattle.link_core.proofs.Few.{table_fits}
use Rattle.link_core.proofs.GotRelocationsRows.{LiesBetween, got_lies}
use Rattle.link_core.proofs.Lengths.{places_inside}
use Rattle.link_core.proofs.LengthsPlaces.{base_before}
use Rattle.link_core.proofs.LengthsRaw.{stub_length}
use Rattle.link_core.proofs.Linkable.{linkable}
use Rattle.link_core.proofs.LoadsTls.{same_base}
use Rattle.link_core.proofs.StandingParts.{stub_index, stub_is_part, stub_part}
use Rattle.link_core.specs.Bytes.{file, stub_bytes}
use Rattle.link_core.specs.Dynamic.{got_relocations, image_relocations, relatives}
use Rattle.link_core.specs.Images.{contents, file_kind, got_places, image_of, places, section_places, stub_places}
use Rattle.link_needs.specs.Given.{FitsTable, IsGiven}
use Rattle.link_needs.specs.Linking.{Linking, layout}
use Rattle.link_needs.specs.Needs.{got_size, got_start, has_stub, stub_start}
use Rattle.loaded_modules.specs.declared.instance.Instance.{Instance}
use Rattle.loaded_modules.specs.Loader.{part_bytes}
use Rattle.relocated_parts.proofs.Loaded.{part_left}
use Rattle.relocated_parts.proofs.Parts.{parts_follow}
use Rattle.relocated_parts.specs.Laws.{IsMade}
use Rattle.relocated_parts.specs.Left.{byte_by, is_written_at, left_byte}
use Rattle.placed_sections.specs.Files.{offset_of}
use Rattle.thread_blocks.specs.JobLoads.{job_loads, parts_from}
use Rattle.tls_layout.proofs.Together.{page_up-above}
use Rattle.tls_relocs.specs.Elements.{slice_get-append, slice_get-append_behind, slice_get-drop, slice_get-take}
use Rattle.whole_meaning.specs.Spots.{bias_of}
use Rattle.loaded_bytes.specs.Laws.{IsInstanceOf, images_of}
use Rattle.loaded_bytes.proofs.Biases.{image_bias}
use Rattle.loaded_bytes.proofs.Still.{fixed_is, image_is}
use Rattle.loaded_bytes.proofs.Ranges.{found_in_part, still}
use Rattle.loaded_words.proofs.Tests.{none_found}
use Rattle.relocated_parts.proofs.Fold.{written_here as written_from}
use Rattle.loaded_words.proofs.Words.{no_relative}

module _ (l : Linking) (has : has_stub l ≡ true) where
  module _ (given : IsGiven l) (limits : FitsTable l) where
    -- no loader writes in it
    unwritten : (address : ℕ) → stub_start l ≤ address → find (is_written_at address) (image_of l).relocations ≡ None
    unfolding image_of finished contents image_relocations
    unwritten address low =
        let up = page_up-above (got_start l + got_size l) in
        find-append (is_written_at address) (relatives l) (got_relocations l)
        ∙ ap (λ o. option_or o (find (is_written_at address) (got_relocations l)))
        (no_relative l given limits address (omega (arith, low, up)))
        ∙ none_found (is_written_at address) (got_relocations l) (λ r among passes.
        let lies = All-contains (LiesBetween (got_start l) (got_start l + got_size l)) (got_relocations l) r
        (got_lies l) among in
        omega (arith, (written_from address r passes).1, lies.below, low, up))

-- each byte of it, where it is run
pub stub_byte : (ls : List Linking) (l : Linking) (x : Instance) (k byte : ℕ) → IsInstanceOf ls l x → has_stub l ≡ true
    → slice_get (stub_bytes l) k ≡ Some byte
    → byte_in Run ((job_loads (images_of ls)).fixed x) (stub_start l + k + bias_of l.kind x.number) ≡ Some byte
unfolding left_byte image_of
stub_byte ls l x k byte is has e =
    let m = images_of ls in
    let limits = table_fits l is.given is.links.sound.limits in
    let link = linkable l is.given is.links.sound in
    let lies = slice_get_within (stub_bytes l) k byte e in
    let size = stub_length l is.given limits in
    let part = stub_is_part l has is.given limits in
    let made : IsMade m (contents l) x = record { linkable = link; image = image_is ls l x is.image } in
    let index : stub_start l + k - stub_start l ≡ k = omega arith in
    ap (λ (ranges : List (Range ℕ)). byte_in Run ranges (stub_start l + k + bias_of l.kind x.number))
    (fixed_is ls l x is.image)
    ∙ ap (λ b. byte_in Run (still (parts_from m (image_of l) x 0 (image_of l).parts)) (stub_start l + k + b))
    (sym (image_bias l x.number))
    ∙ found_in_part m (image_of l) x Run (stub_start l + k) (stub_part l) (omega arith)
    (omega (arith, lies)) 0 (stub_index l) (stub_index l) (image_of l).parts (omega arith) part
    (λ j q less there.
    let before = parts_follow (contents l) link j (stub_index l) q (stub_part l) there part less in
    omega (arith, before))
    refl refl
    ∙ ap (slice_get (part_bytes m (image_of l) x (stub_part l))) index
    ∙ (part_left m (contents l) x (stub_index l) (stub_part l) made part).each k byte e
    ∙ ap (λ o. Some (byte_by m (image_of l) x (stub_start l + k) byte o))
    (unwritten l has is.given limits (stub_start l + k) (omega arith))

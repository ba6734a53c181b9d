-- The table is a part of the image that can be read and that no thread writes.
use Rattle.std.proofs.Common.{◌≡◌, ◌+◌, ◌-◌, ◌<◌, ◌≤◌, ◌==◌, ◌∙◌, ℕ, true, false, List, [], ◌∷◌, ◌++◌, Some, length}
use Rattle.std.proofs.Common.{drop, map, refl, sym, ap, subst, arith}
use Rattle.std.specs.Prelude.{option_map, slice_get}
use Rattle.std.specs.List.{flat_map}
use Rattle.std.specs.Option.{IfSome, option_map_or}
use Rattle.std.proofs.lemmas.Bool.Decides.{nat_tests}
use Rattle.std.proofs.lemmas.Option.{get_or_from_slice_get, slice_get-map, slice_get_within}
use Rattle.elf_records.specs.Fields.{part_at}
use Rattle.got_pairs.proofs.Served.{within}
use Rattle.got_pairs.specs.declared.need.Need.{Need}
use Rattle.got_pairs.specs.Needs.{size_of, start_of}
use Rattle.guest_operands.specs.declared.space.Access.TheVariants.{Read}
use Rattle.guest_operands.specs.Ranges.{Range, byte_in}
use Rattle.image_file.specs.declared.part.PartClass.TheVariants.{Writable}
use Rattle.image_file.specs.Spelled.{Part}
use Rattle.image_writer.proofs.SameBytes.{part_length}
use Rattle.image_writer.specs.declared.outline.PartPlace.{PartPlace}
use Rattle.image_writer.specs.Contents.{part_in}
use Rattle.image_writer.specs.Outlined.{no_part}
use Rattle.image_writer.specs.Page.{file_offset}
use Rattle.image_writer.specs.Tables.{finished, tables_part}
use Rattle.link_core.proofs.Few.{table_fits}
use Rattle.link_core.proofs.Lengths.{places_inside}
use Rattle.link_core.proofs.LengthsRaw.{got_length}
use Rattle.link_core.proofs.Linkable.{linkable}
use Rattle.link_core.proofs.LoadsTls.{same_base}
use Rattle.link_core.proofs.StandingParts.{got_index, got_is_part, got_numbered, got_part}
use Rattle.link_core.proofs.StandingTable.{entry_in}
use Rattle.link_core.specs.Bytes.{got_bytes, need_bytes}
use Rattle.link_core.specs.Faults.{Links}
use Rattle.link_core.specs.Images.{contents, file_kind, got_number, image_of, places, section_places, stub_places}
use Rattle.link_needs.proofs.Reached.{entry_within}
use Rattle.link_needs.specs.Given.{FitsTable, IsGiven}
use Rattle.link_needs.specs.Linking.{Linking, layout}
use Rattle.link_needs.specs.Needs.{entries, got_size, got_start}
use Rattle.loaded_modules.specs.declared.instance.Instance.{Instance}
use Rattle.loaded_modules.specs.Loader.{part_bytes}
use Rattle.relocated_parts.proofs.Loaded.{part_left}
use Rattle.relocated_parts.proofs.Parts.{parts_follow}
use Rattle.relocated_parts.specs.Laws.{IsMade}
use Rattle.relocated_parts.specs.Left.{left_byte}
use Rattle.placed_sections.specs.Files.{offset_of}
use Rattle.thread_blocks.specs.JobLoads.{job_loads, parts_from}
use Rattle.tls_relocs.specs.Elements.{slice_get-append, slice_get-append_behind, slice_get-drop, slice_get-take}
use Rattle.whole_meaning.specs.Spots.{bias_of}
use Rattle.loaded_bytes.specs.Laws.{IsInstanceOf, images_of}
use Rattle.loaded_bytes.proofs.Biases.{image_bias}
use Rattle.loaded_bytes.proofs.Still.{fixed_is, image_is}
use Rattle.loaded_bytes.proofs.Ranges.{found_in_part, still}

-- it is the part that the loader alone writes
is_table : (l : Linking) → 0 < got_size l
    → option_map_or (λ (own : ℕ). own == got_index l) (image_of l).got false ≡ true
unfolding image_of finished contents
is_table l some = ap (λ n. option_map_or (λ (own : ℕ). own == (got_index l)) n false) (got_numbered l some)
    ∙ same (got_index l)
  where
    same : (n : ℕ) → (n == n) ≡ true
    same n = grind (arith, nat_tests)

-- ** the bytes of an entry

module _ (ls : List Linking) (l : Linking) (x : Instance) (is : IsInstanceOf ls l x) (need : Need) (at : ℕ)
    (starts : start_of (entries l) need ≡ Some at) where
  -- as they stand in the table
  listed : (k byte : ℕ) → slice_get (need_bytes l need) k ≡ Some byte → slice_get (got_bytes l) (at + k) ≡ Some byte
  unfolding got_bytes part_at
  listed k byte e =
      let all = flat_map (need_bytes l) (entries l) in
      let first : at ≡ at - 0 = omega arith in
      sym (slice_get-drop at k all)
      ∙ ap (λ i. slice_get (drop i all) k) first
      ∙ sym (slice_get-take (length (need_bytes l need)) k (drop (at - 0) all)
      (slice_get_within (need_bytes l need) k byte e))
      ∙ ap (λ bytes. slice_get bytes k) (entry_in l need 0 at (entries l) starts).1
      ∙ e

  -- as an instance has them
  pub found : (k byte : ℕ) → k < size_of need → slice_get (need_bytes l need) k ≡ Some byte
      → byte_in Read ((job_loads (images_of ls)).fixed x) (got_start l + at + k + bias_of l.kind x.number)
      ≡ Some (left_byte (images_of ls) (image_of l) x (got_start l + at + k) byte)
  unfolding image_of
  found k byte below e =
      let inside = entry_within l need (record { at = at; starts = starts }) in
      let some : 0 < got_size l = omega (arith, inside, below) in
      let link = linkable l is.given is.links.sound in
      let long = got_length l in
      let part = got_is_part l some is.given (table_fits l is.given is.links.sound.limits) in
      let address : ℕ = got_start l + at + k in
      let made : IsMade (images_of ls) (contents l) x = record { linkable = link; image = image_is ls l x is.image } in
      let index : got_start l + at + k - got_start l ≡ at + k = omega arith in
      let again : got_start l + (at + k) ≡ got_start l + at + k = omega arith in
      ap (λ (ranges : List (Range ℕ)). byte_in Read ranges (got_start l + at + k + bias_of l.kind x.number))
      (fixed_is ls l x is.image)
      ∙ ap
      (λ b. byte_in Read (still (parts_from (images_of ls) (image_of l) x 0 (image_of l).parts))
      (got_start l + at + k + b))
      (sym (image_bias l x.number))
      ∙ found_in_part (images_of ls) (image_of l) x Read (got_start l + at + k) (got_part l) (omega arith)
      (omega (arith, long, inside, below)) 0 (got_index l) (got_index l) (image_of l).parts (omega arith)
      part
      (λ j q less there.
      let before = parts_follow (contents l) link j (got_index l) q (got_part l) there part less in
      omega (arith, before))
      refl (rw (is_table l some) refl)
      ∙ ap (slice_get (part_bytes (images_of ls) (image_of l) x (got_part l))) index
      ∙ (part_left (images_of ls) (contents l) x (got_index l) (got_part l) made part).each (at + k) byte
      (listed k byte e)
      ∙ ap (λ a. Some (left_byte (images_of ls) (image_of l) x a byte)) again

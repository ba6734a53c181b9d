-- Images that are linked from objects which have no section for programs to write share no data.
use Rattle.std.proofs.Common.{◌≡◌, ◌∙◌, ◌-◌, ◌==◌, Bool, true, false, List, [], ◌∷◌, ◌++◌, Some, None}
use Rattle.std.proofs.Common.{length, map, nat_lt, refl, sym, ap, subst, append_assoc}
use Rattle.std.specs.Prelude.{is_some, if◌then◌else◌}
use Rattle.std.specs.List.{All}
use Rattle.std.proofs.lemmas.List.{length-map, map-append}
use Rattle.std.proofs.lemmas.List.Elements.{All-append, All-cons, All-map, All-nil, All-weaker}
use Rattle.std.proofs.lemmas.List.Folds.{list_any_none}
use Rattle.image_file.specs.declared.part.PartClass.{PartClass}
use Rattle.image_file.specs.declared.part.PartClass.TheVariants.{Executable, ReadOnly, Writable}
use Rattle.image_file.specs.Spelled.{Part, Spelled, is_writable}
use Rattle.image_writer.specs.declared.outline.PartPlace.{PartPlace}
use Rattle.image_writer.specs.Contents.{part_in}
use Rattle.image_writer.specs.Tables.{finished, tables_part}
use Rattle.link_core.specs.Bytes.{file}
use Rattle.link_core.specs.Images.{contents, file_kind, filled, got_number, got_places, image_of, places}
use Rattle.link_core.specs.Images.{section_places, stub_places}
use Rattle.link_needs.specs.Linking.{Linking, layout}
use Rattle.link_needs.specs.Needs.{got_size, got_start, has_stub, stub_start}
use Rattle.module_data.specs.Parts.{data_part}
use Rattle.tls_layout.specs.declared.extent.Extent.{Extent}
use Rattle.tls_layout.specs.Places.{executable, read_only, tls_image, writable}
use Rattle.linked_modules.specs.Dataless.{DatalessObjectsShareNoData, IsOfDataless}
use Rattle.link_needs.specs.Linking.{has_writable_data}
use Rattle.linked_modules.proofs.DataParts.{IsStill, still_parts, table_part}
use Rattle.linked_modules.proofs.Unwritten.{empty}

-- ** parts that no program writes

abbrev IsStillPlace : PartPlace → Type 0
IsStillPlace place = is_writable place.class ≡ false

filled_still : (class : PartClass) (extent : Extent) → is_writable class ≡ false
    → All IsStillPlace (filled class extent)
filled_still class extent still = of_test (nat_lt extent.start extent.end)
  where
    place : PartPlace
    place = record { class = class; address = extent.start; size = extent.end - extent.start }

    of_test : (t : Bool)
        → All IsStillPlace
        (if t then record { class = class; address = extent.start; size = extent.end - extent.start } ∷ [] else [])
    of_test true = All-cons IsStillPlace place [] still (All-nil IsStillPlace)
    of_test false = All-nil IsStillPlace

none_filled : (class : PartClass) (extent : Extent) → nat_lt extent.start extent.end ≡ false
    → All IsStillPlace (filled class extent)
none_filled class extent none = rw none (All-nil IsStillPlace)

stub_still : (l : Linking) → All IsStillPlace (stub_places l)
stub_still l = of_test (has_stub l)
  where
    place : PartPlace
    place = record { class = Executable; address = stub_start l; size = 6 }

    of_test : (t : Bool)
        → All IsStillPlace (if t then record { class = Executable; address = stub_start l; size = 6 } ∷ [] else [])
    of_test true = All-cons IsStillPlace place [] refl (All-nil IsStillPlace)
    of_test false = All-nil IsStillPlace

module _ (l : Linking) (none : has_writable_data l ≡ false) where
  abbrev made : PartPlace → Part
  made = part_in (file_kind l.kind) (file l)

  made_still : (xs : List PartPlace) → All IsStillPlace xs → All IsStill (map made xs)
  made_still xs still = All-map IsStill (part_in (file_kind l.kind) (file l)) xs still

  sections_still : All IsStillPlace (section_places (layout l))
  unfolding section_places
  sections_still =
      let x = filled Executable (executable (layout l).kind (layout l).sections) in
      let r = filled ReadOnly (read_only (layout l).kind (layout l).sections) in
      let t = filled ReadOnly (tls_image (layout l).kind (layout l).sections) in
      let w = filled Writable (writable (layout l).kind (layout l).sections) in
      All-append IsStillPlace x (r ++ (t ++ w))
      (filled_still Executable (executable (layout l).kind (layout l).sections) refl)
      (All-append IsStillPlace r (t ++ w) (filled_still ReadOnly (read_only (layout l).kind (layout l).sections) refl)
      (All-append IsStillPlace t w (filled_still ReadOnly (tls_image (layout l).kind (layout l).sections) refl)
      (none_filled Writable (writable (layout l).kind (layout l).sections) none)))

  -- what is behind the table
  abbrev rest : List Part
  rest = map made (stub_places l) ++ (tables_part (contents l) ∷ [])

  rest_still : All IsStill rest
  unfolding tables_part
  rest_still =
      All-append IsStill (map made (stub_places l)) (tables_part (contents l) ∷ [])
      (made_still (stub_places l) (stub_still l))
      (All-cons IsStill (tables_part (contents l)) [] refl (All-nil IsStill))

  parts_are : (image_of l).parts ≡ map made (section_places (layout l)) ++ (map made (got_places l) ++ rest)
  unfolding image_of finished contents places
  parts_are =
      let own = section_places (layout l) in
      ap (λ xs. xs ++ (tables_part (contents l) ∷ []))
      (map-append made own (got_places l ++ stub_places l)
      ∙ ap (λ xs. map made own ++ xs) (map-append made (got_places l) (stub_places l)))
      ∙ joined (map made own) (map made (got_places l)) (map made (stub_places l)) (tables_part (contents l) ∷ [])
    where
      joined : (a b c d : List Part) → (a ++ (b ++ c)) ++ d ≡ a ++ (b ++ (c ++ d))
      joined a b c d = simp append_assoc

  no_part : data_part (image_of l) ≡ None
  unfolding image_of finished contents got_number
  no_part = of_size (got_size l == 0) refl
    where
      front : List Part
      front = map made (section_places (layout l))

      front_still : All IsStill (map made (section_places (layout l)))
      front_still = made_still (section_places (layout l)) sections_still

      of_size : (t : Bool) → (got_size l == 0) ≡ t → data_part (image_of l) ≡ None
      of_size true e =
          let parts : (image_of l).parts ≡ front ++ rest = parts_are ∙ rw e refl in
          still_parts (image_of l)
          (subst (All IsStill) (sym parts) (All-append IsStill front rest front_still rest_still))
      of_size false e =
          let table = made (record { class = Writable; address = got_start l; size = got_size l }) in
          let parts : (image_of l).parts ≡ front ++ table ∷ rest = parts_are ∙ rw e refl in
          let got : (image_of l).got ≡ Some (length front) =
          rw e (ap Some (sym (length-map (section_places (layout l)) made))) in
          table_part (image_of l) front table rest front_still rest_still parts got

-- ** all images of a job

unwritten : (l : Linking) → IsOfDataless l → has_writable_data l ≡ false
unwritten l none = empty l.kind l.objects none

-- the law
pub share_no_data : DatalessObjectsShareNoData
share_no_data ls none = record {
  classes = All-weaker IsOfDataless (λ (l : Linking). has_writable_data l ≡ false) unwritten ls none;
  parts =
      list_any_none (λ (image : Spelled). is_some (data_part image)) (map image_of ls)
      (All-map (λ (image : Spelled). is_some (data_part image) ≡ false) image_of ls
      (All-weaker IsOfDataless (λ (l : Linking). is_some (data_part (image_of l)) ≡ false)
      (λ l own. ap is_some (no_part l (unwritten l own))) ls none));
}

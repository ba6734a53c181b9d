-- Each class that has bytes is one part of the image, and an instance has in it what its objects mean.
use Rattle.std.proofs.Common.{◌≡◌, ◌+◌, ◌-◌, ◌<◌, ◌∙◌, ℕ, List, [], ◌∷◌, ◌++◌, Some, length, map, refl, ap}
use Rattle.std.proofs.Common.{arith}
use Rattle.std.specs.Prelude.{option_map, slice_get}
use Rattle.std.specs.List.{Contains}
use Rattle.std.proofs.lemmas.Bool.{lt-ltb}
use Rattle.std.proofs.lemmas.List.Elements.{Contains-append_left, Contains-append_right}
use Rattle.std.proofs.lemmas.Option.{slice_get-get_or, slice_get-map, slice_get_within}
use Rattle.memory_image.specs.Laying.{HasRange}
use Rattle.elf_records.specs.Fields.{part_at}
use Rattle.image_file.specs.declared.part.PartClass.{PartClass}
use Rattle.image_file.specs.declared.part.PartClass.TheVariants as part_class
use Rattle.image_file.specs.Spelled.{Part}
use Rattle.image_writer.proofs.SameBytes.{part_length}
use Rattle.image_writer.specs.declared.outline.PartPlace.{PartPlace}
use Rattle.image_writer.specs.Contents.{part_in}
use Rattle.image_writer.specs.Page.{file_offset}
use Rattle.image_writer.specs.Tables.{finished, tables_part}
use Rattle.link_core.proofs.Few.{table_fits}
use Rattle.link_core.proofs.LengthsInside.{file_longer}
use Rattle.link_core.proofs.LengthsKept.{are_laid}
use Rattle.link_core.proofs.Linkable.{linkable}
use Rattle.link_core.proofs.LoadsTls.{same_base}
use Rattle.link_core.specs.Bytes.{file, linked_section}
use Rattle.link_core.specs.Faults.{Links}
use Rattle.link_core.specs.Images.{contents, file_kind, filled, got_places, image_of, places, section_places}
use Rattle.link_core.specs.Images.{stub_places}
use Rattle.link_core.specs.Laws.{HasNoStray}
use Rattle.link_needs.specs.Given.{FitsTable, IsGiven}
use Rattle.link_needs.specs.Linking.{Linking, layout}
use Rattle.loaded_modules.specs.declared.instance.Instance.{Instance}
use Rattle.loaded_modules.specs.Images.{JobImages, image_at}
use Rattle.loaded_modules.specs.Loader.{part_bytes}
use Rattle.object_faults.specs.declared.class.SectionClass.{SectionClass}
use Rattle.object_faults.specs.declared.class.SectionClass.TheVariants.{Executable, ReadOnly, Tls, Writable}
use Rattle.relocated_parts.proofs.Loaded.{part_left}
use Rattle.relocated_parts.specs.Laws.{IsMade}
use Rattle.placed_sections.proofs.Told.{files_end}
use Rattle.placed_sections.specs.Files.{offset_of}
use Rattle.tls_layout.specs.declared.extent.Extent.{Extent}
use Rattle.tls_layout.specs.Places.{extent_for}
use Rattle.tls_layout.specs.Places.{executable, read_only, tls_image, writable}
use Rattle.tls_layout.specs.Sections.{Layout}
use Rattle.tls_relocs.specs.Elements.{slice_get-append, slice_get-drop, slice_get-take}
use Rattle.whole_meaning.specs.Spots.{bias_of, spot_in}
use Rattle.loaded_bytes.specs.Bytes.{byte_at}
use Rattle.loaded_bytes.proofs.Classes.{class_above, class_ends}
use Rattle.loaded_bytes.proofs.ClassFile.{class_byte, filed_byte}
use Rattle.loaded_bytes.proofs.LeftBytes.{left_is}

-- ** the part of a class

-- what may be done with it
abbrev pub class_of_part : SectionClass → PartClass
class_of_part Executable = part_class.Executable
class_of_part ReadOnly = part_class.ReadOnly
class_of_part (Tls initial) = part_class.ReadOnly
class_of_part (Writable initial) = part_class.Writable

abbrev pub class_place : Layout → SectionClass → PartPlace
class_place p c = record {
  class = class_of_part c;
  address = (extent_for c p).start;
  size = (extent_for c p).end - (extent_for c p).start;
}

abbrev pub class_part : Linking → SectionClass → Part
class_part l c = part_in (file_kind l.kind) (file l) (class_place (layout l) c)

filled_has : (kind : PartClass) (x : Extent) → x.start < x.end
    → Contains (filled kind x) (record { class = kind; address = x.start; size = x.end - x.start })
filled_has kind x some = rw (lt-ltb x.start x.end some) (0, omega arith, refl)

listed : (p : Layout) (c : SectionClass) → (extent_for c p).start < (extent_for c p).end
    → Contains (section_places p) (class_place p c)
unfolding section_places
listed p c some = of_class c some
  where
    x : List PartPlace
    x = filled part_class.Executable (executable p.kind p.sections)

    r : List PartPlace
    r = filled part_class.ReadOnly (read_only p.kind p.sections)

    t : List PartPlace
    t = filled part_class.ReadOnly (tls_image p.kind p.sections)

    w : List PartPlace
    w = filled part_class.Writable (writable p.kind p.sections)

    of_class : (c : SectionClass) → (extent_for c p).start < (extent_for c p).end
        → Contains (x ++ (r ++ (t ++ w))) (class_place p c)
    of_class Executable some =
        Contains-append_left x (r ++ (t ++ w)) (class_place p Executable)
        (filled_has part_class.Executable (executable p.kind p.sections) some)
    of_class ReadOnly some =
        Contains-append_right x (r ++ (t ++ w)) (class_place p ReadOnly)
        (Contains-append_left r (t ++ w) (class_place p ReadOnly)
        (filled_has part_class.ReadOnly (read_only p.kind p.sections) some))
    of_class (Tls initial) some =
        Contains-append_right x (r ++ (t ++ w)) (class_place p (Tls initial))
        (Contains-append_right r (t ++ w) (class_place p (Tls initial))
        (Contains-append_left t w (class_place p (Tls initial))
        (filled_has part_class.ReadOnly (tls_image p.kind p.sections) some)))
    of_class (Writable initial) some =
        Contains-append_right x (r ++ (t ++ w)) (class_place p (Writable initial))
        (Contains-append_right r (t ++ w) (class_place p (Writable initial))
        (Contains-append_right t w (class_place p (Writable initial))
        (filled_has part_class.Writable (writable p.kind p.sections) some)))

-- ** its number

pub record IsPart (l : Linking) (c : SectionClass) : Type 0 where
  pub index : ℕ
  pub low : index < length (section_places (layout l))
  pub at : slice_get (image_of l).parts index ≡ Some (class_part l c)

pub part_of : (l : Linking) (c : SectionClass) → (extent_for c (layout l)).start < (extent_for c (layout l)).end
    → IsPart l c
unfolding image_of finished contents places
part_of l c some =
    let has = listed (layout l) c some in
    let own = section_places (layout l) in
    let more = got_places l ++ stub_places l in
    let f : PartPlace → Part = part_in (file_kind l.kind) (file l) in
    let at : slice_get own has.0 ≡ Some (class_place (layout l) c) =
    slice_get-get_or own has.0 (class_place (layout l) c) has.1 ∙ ap Some has.2 in
    let among : slice_get (own ++ more) has.0 ≡ Some (class_place (layout l) c) =
    slice_get-append own more has.0 has.1 ∙ at in
    let made : slice_get (map f (own ++ more)) has.0 ≡ Some (class_part l c) =
    slice_get-map f (own ++ more) has.0 ∙ ap (option_map f) among in
    record {
      index = has.0;
      low = has.1;
      at = slice_get-append (map f (own ++ more)) (tables_part (contents l) ∷ []) has.0
          (slice_get_within (map f (own ++ more)) has.0 (class_part l c) made)
          ∙ made;
    }

-- ** its bytes

module _ (l : Linking) (given : IsGiven l) (links : Links l) (c : SectionClass) where
  fits : FitsTable l
  fits = table_fits l given links.sound.limits

  abbrev x : Extent
  x = extent_for c (layout l)

  abbrev at : ℕ
  at = file_offset (file_kind l.kind) (extent_for c (layout l)).start

  pub part_long : (extent_for c (layout l)).start < (extent_for c (layout l)).end
      → length (class_part l c).bytes ≡ (extent_for c (layout l)).end - (extent_for c (layout l)).start
  part_long some =
      let end = files_end l.kind (linked_section l) l.objects (are_laid l given fits) in
      let last = class_ends (layout l) c some in
      part_length (x.end - x.start) at (file l)
      (omega (arith, same_base l.kind, some, end, last, class_above (layout l) c, file_longer l))

  pub part_byte : HasRange c → (k : ℕ) → k < (extent_for c (layout l)).end - (extent_for c (layout l)).start
      → slice_get (class_part l c).bytes k
      ≡ Some (filed_byte l (spot_in l c ((extent_for c (layout l)).start + k)))
  unfolding part_at
  part_byte range k below =
      let low = class_above (layout l) c in
      let place : at + k ≡ offset_of (layout l) (x.start + k) = omega (arith, same_base l.kind, low) in
      slice_get-take (x.end - x.start) k _ below
      ∙ slice_get-drop at k (file l)
      ∙ ap (slice_get (file l)) place
      ∙ class_byte l given links c range (x.start + k) (omega arith) (omega (arith, below))

  -- as an instance has it
  pub part_loaded : HasRange c → HasNoStray l → (m : JobImages) (y : Instance) → image_at m y.image ≡ Some (image_of l)
      → (k : ℕ) → k < (extent_for c (layout l)).end - (extent_for c (layout l)).start
      → slice_get (part_bytes m (image_of l) y (class_part l c)) k
      ≡ Some (byte_at l (bias_of l.kind y.number) c ((extent_for c (layout l)).start + k))
  unfolding image_of
  part_loaded range stray m y image k below =
      let start = (extent_for c (layout l)).start in
      let made : IsMade m (contents l) y = record { linkable = linkable l given links.sound; image = image } in
      let part = part_of l c (omega (arith, below)) in
      (part_left m (contents l) y part.index (class_part l c) made part.at).each k
      (filed_byte l (spot_in l c (start + k)))
      (part_byte range k below)
      ∙ ap Some
      (left_is l given links stray c range (start + k) (omega arith) (omega (arith, below)) m y)

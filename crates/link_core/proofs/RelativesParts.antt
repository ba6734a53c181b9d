-- What lies in a class of sections lies in a part of the image.
use Rattle.std.proofs.Common.{◌≡◌, ◌+◌, ◌-◌, ◌<◌, ◌≤◌, ◌∙◌, ℕ, List, [], ◌∷◌, ◌++◌, length, get_or, map, refl, sym, ap}
use Rattle.std.proofs.Common.{subst, arith, length-append}
use Rattle.std.specs.List.{Contains}
use Rattle.std.proofs.lemmas.Bool.{lt-ltb}
use Rattle.std.proofs.lemmas.List.{get_or-map, get_or_append_left, get_or_default, length-map}
use Rattle.std.proofs.lemmas.List.Elements.{Contains-append_left, Contains-append_right}
use Rattle.object_faults.specs.declared.class.SectionClass.{SectionClass}
use Rattle.object_faults.specs.declared.class.SectionClass.TheVariants as class
use Rattle.image_file.specs.declared.part.PartClass.{PartClass}
use Rattle.image_file.specs.declared.part.PartClass.TheVariants.{Executable, ReadOnly, Writable}
use Rattle.image_file.specs.declared.relocation.ImageRelocation.{ImageRelocation}
use Rattle.image_file.specs.Spelled.{Part}
use Rattle.image_writer.specs.declared.outline.PartPlace.{PartPlace}
use Rattle.image_writer.specs.Contents.{part_in}
use Rattle.image_writer.specs.Linkable.{Holds, width}
use Rattle.image_writer.specs.Outlined.{end_of, no_part, outline_of, part, place_of}
use Rattle.image_writer.specs.Page.{file_offset}
use Rattle.image_writer.specs.Tables.{finished, tables_part}
use Rattle.image_writer.proofs.SameBytes.{part_length}
use Rattle.tls_layout.specs.declared.extent.Extent.{Extent}
use Rattle.tls_layout.specs.Places.{extent_for}
use Rattle.tls_layout.specs.Places.{executable, read_only, tls_image, writable}
use Rattle.tls_layout.specs.Sections.{Layout}
use Rattle.link_needs.specs.Linking.{Linking, layout}
use Rattle.link_core.specs.Bytes.{file}
use Rattle.link_needs.specs.Given.{FitsTable, IsGiven}
use Rattle.link_core.specs.Images.{contents, file_kind, filled, got_places, places, section_places, stub_places}
use Rattle.link_core.proofs.Lengths.{places_inside}

-- ** the part of a class

-- a part that begins and ends as the extent does
pub record IsPart (xs : List PartPlace) (extent : Extent) : Type 0 where
  pub place : PartPlace
  pub listed : Contains xs place
  pub begins : place.address ≡ extent.start
  pub ends : place.address + place.size ≡ extent.end

is_filled : (c : PartClass) (extent : Extent) → extent.start < extent.end → IsPart (filled c extent) extent
is_filled c extent some = rw (lt-ltb extent.start extent.end some) (record {
  place = record { class = c; address = extent.start; size = extent.end - extent.start };
  listed = (0, omega arith, refl);
  begins = refl;
  ends = omega arith;
})

pub in_front : (xs ys : List PartPlace) (extent : Extent) → IsPart xs extent → IsPart (xs ++ ys) extent
in_front xs ys extent is = record {
  place = is.place;
  listed = Contains-append_left xs ys is.place is.listed;
  begins = is.begins;
  ends = is.ends;
}

pub behind : (xs ys : List PartPlace) (extent : Extent) → IsPart ys extent → IsPart (xs ++ ys) extent
behind xs ys extent is = record {
  place = is.place;
  listed = Contains-append_right xs ys is.place is.listed;
  begins = is.begins;
  ends = is.ends;
}

-- a class that has bytes is one
of_class : (p : Layout) (c : SectionClass) → (extent_for c p).start < (extent_for c p).end
    → IsPart (section_places p) (extent_for c p)
unfolding section_places
of_class p class.Executable some =
    in_front (filled Executable (executable p.kind p.sections)) _ (executable p.kind p.sections)
    (is_filled Executable (executable p.kind p.sections) some)
of_class p class.ReadOnly some =
    behind (filled Executable (executable p.kind p.sections)) _ (read_only p.kind p.sections)
    (in_front (filled ReadOnly (read_only p.kind p.sections)) _ (read_only p.kind p.sections)
    (is_filled ReadOnly (read_only p.kind p.sections) some))
of_class p (class.Tls initial) some =
    behind (filled Executable (executable p.kind p.sections)) _ (tls_image p.kind p.sections)
    (behind (filled ReadOnly (read_only p.kind p.sections)) _ (tls_image p.kind p.sections)
    (in_front (filled ReadOnly (tls_image p.kind p.sections)) _ (tls_image p.kind p.sections)
    (is_filled ReadOnly (tls_image p.kind p.sections) some)))
of_class p (class.Writable initial) some =
    behind (filled Executable (executable p.kind p.sections)) _ (writable p.kind p.sections)
    (behind (filled ReadOnly (read_only p.kind p.sections)) _ (writable p.kind p.sections)
    (behind (filled ReadOnly (tls_image p.kind p.sections)) _ (writable p.kind p.sections)
    (is_filled Writable (writable p.kind p.sections) some)))

pub class_part : (l : Linking) (c : SectionClass) → (extent_for c (layout l)).start < (extent_for c (layout l)).end
    → IsPart (places l) (extent_for c (layout l))
unfolding places
class_part l c some =
    in_front (section_places (layout l)) (got_places l ++ stub_places l) (extent_for c (layout l))
    (of_class (layout l) c some)

-- ** a part in the contents

-- a part of the image lies where its place is
pub place_is : (l : Linking) → IsGiven l → FitsTable l → (i : ℕ) → i < length (places l)
    → part (outline_of (finished (contents l))) i ≡ get_or (places l) i no_part
unfolding contents finished
place_is l given limits i below =
    let kind = file_kind l.kind in
    let parts : List Part = map (part_in kind (file l)) (places l) in
    let long : length parts ≡ length (places l) = length-map (places l) (part_in kind (file l)) in
    let tables = tables_part (contents l) in
    let inside : i < length (parts ++ (tables ∷ [])) = omega (arith, length-append parts (tables ∷ [])) in
    let there = part_in kind (file l) (get_or (places l) i no_part) in
    let first = get_or-map place_of (parts ++ (tables ∷ [])) i there no_part inside in
    let next = get_or_append_left parts (tables ∷ []) there i (omega arith) in
    let last = get_or-map (part_in kind (file l)) (places l) i no_part there below in
    first ∙ ap place_of (next ∙ last) ∙ same (get_or (places l) i no_part)
    (places_inside l given limits i no_part below)
  where
    same : (p : PartPlace) → file_offset (file_kind l.kind) p.address + p.size ≤ length (file l)
        → place_of (part_in (file_kind l.kind) (file l) p) ≡ p
    same p inside =
        ap (λ n. record { class = p.class; address = p.address; size = n })
        (part_length p.size (file_offset (file_kind l.kind) p.address) (file l) inside)

-- what lies in a class lies in a part
pub held_in : (l : Linking) → IsGiven l → FitsTable l → (extent : Extent) → IsPart (places l) extent
    → (r : ImageRelocation) → extent.start ≤ r.place → r.place + width r.kind ≤ extent.end
    → (i : ℕ) × Holds (contents l) r i
unfolding contents
held_in l given limits extent is r low high =
    let i = is.listed.0 in
    let below = is.listed.1 in
    let there : part (outline_of (finished (contents l))) i ≡ is.place = place_is l given limits i below ∙ found in
    let F : PartPlace → Type 0 = λ p. (p.address ≤ r.place) × (r.place + width r.kind ≤ end_of p) in
    let both : F (part (outline_of (finished (contents l))) i) =
    subst F (sym there) (omega (arith, is.begins), omega (arith, is.ends)) in
    (i, (omega (arith, length-map (places l) (part_in (file_kind l.kind) (file l))), both.0, both.1))
  where
    found : get_or (places l) is.listed.0 no_part ≡ is.place
    found = get_or_default (places l) is.listed.0 no_part is.place is.listed.1 ∙ is.listed.2

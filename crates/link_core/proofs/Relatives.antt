-- The relocations of fields are as a loader wants them.
use Rattle.std.proofs.Common.{◌+◌, ◌≤◌, Bool, true, false, [], refl, arith}
use Rattle.std.specs.Prelude.{if◌then◌else◌}
use Rattle.std.specs.List.{All}
use Rattle.std.proofs.lemmas.List.Elements.{All-nil, All-weaker}
use Rattle.image_file.specs.declared.relocation.ImageRelocation.{ImageRelocation}
use Rattle.image_writer.specs.Linkable.{AreRising, IsRightRelocation, width}
use Rattle.link_faults.specs.ImageKinds.{is_moved}
use Rattle.tls_layout.specs.Laws.{LiesAt}
use Rattle.tls_layout.specs.Places.{extent_for}
use Rattle.tls_layout.specs.Places.{section_named}
use Rattle.tls_layout.proofs.LawsOfPlaces.{lie_in_classes}
use Rattle.link_needs.specs.Linking.{Linking, layout}
use Rattle.link_needs.specs.Needs.{got_start, sorted_by}
use Rattle.link_tables.specs.Dynamic.{image_relocations, got_relocations, relatives}
use Rattle.link_needs.specs.Given.{FitsTable, IsGiven}
use Rattle.link_core.specs.Images.{contents}
use Rattle.link_core.proofs.GotRelocations.{got_above}
use Rattle.link_core.proofs.GotRelocationsRows.{got_rises}
use Rattle.link_core.proofs.RelativesApart.{IsRelative, all_sorted, rising_append, rising_from, sorted_rise, width_of}
use Rattle.link_core.proofs.RelativesFields.{IsField, all_from, apart_from}
use Rattle.link_core.proofs.RelativesParts.{class_part, held_in}
use Rattle.link_tables.specs.Dynamic.{object_relocations}
use Rattle.tls_symbols.specs.Definitions.{flat_map_from}

-- each is the relocation of a field
pub are_fields : (l : Linking) → IsGiven l → All (IsField l 0) (relatives l)
unfolding relatives
are_fields l given = of_test (is_moved l.kind)
  where
    of_test : (t : Bool) → All (IsField l 0)
        (if t then sorted_by (λ r. r.place) (flat_map_from (object_relocations l) 0 l.objects) else [])
    of_test true =
        all_sorted (λ r. r.place) (IsField l 0) (flat_map_from (object_relocations l) 0 l.objects)
        (all_from l given 0 l.objects refl)
    of_test false = All-nil (IsField l 0)

relative : (l : Linking) (r : ImageRelocation) → IsField l 0 r → IsRelative r
relative l r is = is.lies.kind_is

-- it lies in its class
lies_at : (l : Linking) → FitsTable l → (r : ImageRelocation) → (is : IsField l 0 r)
    → LiesAt (layout l) is.lies.class (section_named (layout l) is.object is.section) is.lies.address
lies_at l limits r is =
    let x = is.lies in
    lie_in_classes (layout l) limits.lawful is.object is.section x.address x.class x.class_is x.at

right_field : (l : Linking) → IsGiven l → FitsTable l → (r : ImageRelocation) → IsField l 0 r
    → IsRightRelocation (contents l) r
right_field l given limits r is =
    let lies = lies_at l limits r is in
    let x = is.lies in
    let wide = width_of r x.kind_is in record {
      symbol_in = omega (arith, x.symbol_is);
      names = rw x.kind_is x.symbol_is;
      own = λ none. rw x.kind_is tt;
      held =
          held_in l given limits (extent_for x.class (layout l))
          (class_part l x.class (omega (arith, lies.begins, lies.ends, x.begins, x.ends))) r
          (omega (arith, lies.begins, x.begins)) (omega (arith, wide, lies.ends, x.ends));
    }

pub right_relatives : (l : Linking) → IsGiven l → FitsTable l → All (IsRightRelocation (contents l)) (relatives l)
right_relatives l given limits =
    All-weaker (IsField l 0) (IsRightRelocation (contents l)) (right_field l given limits) (relatives l)
    (are_fields l given)

pub rising_relatives : (l : Linking) → IsGiven l → FitsTable l → AreRising (relatives l)
unfolding relatives
rising_relatives l given limits =
    of_test (is_moved l.kind) (All-weaker (IsField l 0) IsRelative (relative l) (relatives l) (are_fields l given))
  where
    of_test : (t : Bool)
        → All IsRelative (if t then sorted_by (λ r. r.place) (flat_map_from (object_relocations l) 0 l.objects) else [])
        → AreRising (if t then sorted_by (λ r. r.place) (flat_map_from (object_relocations l) 0 l.objects) else [])
    of_test true all =
        rising_from 0 (sorted_by (λ r. r.place) (flat_map_from (object_relocations l) 0 l.objects)) all
        (sorted_rise (flat_map_from (object_relocations l) 0 l.objects) (apart_from l given 0 l.objects refl))
    of_test false all = tt

-- they lie before the table
below_table : (l : Linking) → FitsTable l → (r : ImageRelocation) → IsField l 0 r → r.place + 8 ≤ got_start l
below_table l limits r is =
    let lies = lies_at l limits r is in
    omega (arith, lies.below, is.lies.ends)

pub relatives_below : (l : Linking) → IsGiven l → FitsTable l → All (λ r. r.place + 8 ≤ got_start l) (relatives l)
relatives_below l given limits =
    All-weaker (IsField l 0) (λ r. r.place + 8 ≤ got_start l) (below_table l limits) (relatives l) (are_fields l given)

-- all relocations, those of the table behind
pub rising_all : (l : Linking) → IsGiven l → FitsTable l → AreRising (image_relocations l)
unfolding image_relocations
rising_all l given limits =
    rising_append (got_start l) (relatives l) (got_relocations l) (rising_relatives l given limits) (got_rises l)
    (All-weaker (IsField l 0) (λ r. r.place + width r.kind ≤ got_start l)
    (λ r is. rw (width_of r (relative l r is)) (below_table l limits r is)) (relatives l) (are_fields l given))
    (got_above l)

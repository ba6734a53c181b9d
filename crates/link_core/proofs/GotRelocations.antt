-- The relocations of the table are as a loader wants them.
use Rattle.std.proofs.Common.{◌+◌, ◌<◌, ◌≤◌, ◌++◌, refl, arith}
use Rattle.std.specs.Prelude.{slice_index_or}
use Rattle.std.specs.List.{All}
use Rattle.image_faults.specs.declared.loader_kind.LoaderKind.{LoaderKind}
use Rattle.image_faults.specs.declared.loader_kind.LoaderKind.TheVariants as loader
use Rattle.image_writer.specs.Linkable.{width, IsRightRelocation}
use Rattle.link_needs.specs.Linking.{Linking, layout}
use Rattle.link_needs.specs.Needs.{entries, got_size, got_start}
use Rattle.link_tables.specs.Dynamic.{got_relocations}
use Rattle.link_tables.specs.Faults.{IsSound}
use Rattle.link_needs.specs.Given.{IsGiven}
use Rattle.link_core.specs.Images.{contents, got_places, places, section_places, stub_places}
use Rattle.link_core.proofs.GotRelocationsNamed.{rows_named, IsNamed}
use Rattle.link_core.proofs.GotRelocationsNeeds.{are_entries, IsEntry}
use Rattle.link_core.proofs.GotRelocationsRows.{all_rows, got_lies}
use Rattle.link_core.proofs.Few.{table_fits}
use Rattle.tls_layout.specs.declared.extent.Extent.{Extent}
use Rattle.link_core.proofs.GotRelocationsSites.{not_zero}
use Rattle.link_core.proofs.LengthsPlaces.{got_place}
use Rattle.link_core.proofs.RelativesParts.{IsPart, behind, held_in, in_front}

-- ** the part that the table is

-- the addresses of the table
table_extent : Linking → Extent
table_extent l = record { start = got_start l; end = got_start l + got_size l }

table_part : (l : Linking) → 0 < got_size l → IsPart (places l) (table_extent l)
unfolding places table_extent
table_part l some =
    behind (section_places (layout l)) (got_places l ++ stub_places l) (table_extent l)
    (in_front (got_places l) (stub_places l) (table_extent l) (rw (not_zero (got_size l) some) (record {
      place = got_place l;
      listed = (0, omega arith, refl);
      begins = refl;
      ends = refl;
    })))

-- ** what the theorem is made of

got_named : (l : Linking) → IsGiven l → IsSound l → All (IsNamed l) (got_relocations l)
unfolding got_relocations
got_named l given sound =
    all_rows l (IsNamed l) (IsEntry l) (rows_named l sound.limits.lawful.small_tls) (got_start l) (entries l)
    (are_entries l given sound)

wide : (kind : LoaderKind) → 0 < width kind
wide loader.JumpSlot = omega arith
wide kind = omega arith

pub right_got : (l : Linking) → IsGiven l → IsSound l → All (IsRightRelocation (contents l)) (got_relocations l)
unfolding contents table_extent
right_got l given sound = λ k d h.
    let r = slice_index_or (got_relocations l) k d in
    let named = got_named l given sound k d h in
    let lies = got_lies l k d h in
    let some : 0 < got_size l = omega (arith, lies.above, lies.below, wide r.kind) in
    record {
      symbol_in = named.symbol_in;
      names = named.names;
      own = named.own;
      held = held_in l given (table_fits l given sound.limits) (table_extent l) (table_part l some) r lies.above
          lies.below;
    }

-- they lie at or behind its start
pub got_above : (l : Linking) → All (λ r. got_start l ≤ r.place) (got_relocations l)
got_above l = λ k d h. (got_lies l k d h).above

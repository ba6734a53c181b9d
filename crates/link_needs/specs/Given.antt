-- What a linker is given, what it keeps of that, and what laying out its table requires.
use Rattle.std.specs.Prelude.{◌≡◌, ◌+◌, ◌*◌, ◌-◌, ◌<◌, ◌≤◌, ◌^◌, ℕ, List, length}
use Rattle.std.specs.List.{All}
use Rattle.elf_object.specs.Faults.{IsObject}
use Rattle.sequence_match.specs.Faults.{AreSites}
use Rattle.tls_layout.specs.Places.{IsLawful}
use Rattle.tls_layout.specs.Sections.{Layout}
use Rattle.link_needs.specs.Linking.{Linking, block_offset, layout, object, sites_at}
use Rattle.link_needs.specs.Needs.{got_size}

-- the sequences are those of the objects
pub record IsGiven (l : Linking) : Type 0 where
  pub few_startup : length l.startup < 2 ^ 32 - 1
  pub are_objects : All IsObject l.objects
  pub each : length l.sites ≡ length l.objects
  pub are_sites : (o : ℕ) → o < length l.objects → AreSites (object l o) (sites_at l o)

-- these belong to the link: the objects of its bindings, where sections go, the distance of the program's block
pub record AreInputs (l : Linking) (objects : List (List ℕ)) (p : Layout) (distance : ℕ) : Type 0 where
  pub given : IsGiven l
  pub objects_are : objects ≡ l.objects
  pub placed : p ≡ layout l
  pub lawful : IsLawful p
  pub distance_is : distance ≡ block_offset l

-- the table can be laid out after the sections: they are within the limits, and so is its size, two words for each of
-- 2^19 relocations and for the run time's function
pub record FitsTable (l : Linking) : Type 0 where
  pub lawful : IsLawful (layout l)
  pub got : got_size l ≤ 16 * (2 ^ 19 + 1)

-- The tables of all images of a job.
use Rattle.std.specs.Prelude.{◌≡◌, ℕ, true, List, Some, length, map, slice_get}
use Rattle.std.specs.List.{All}
use Rattle.memory_image.specs.Still.{AreStill}
use Rattle.memory_image.specs.Tables.{IsClass}
use Rattle.link_core.specs.Faults.{IsSound}
use Rattle.link_core.specs.Laws.{HasNoStray}
use Rattle.link_needs.specs.Given.{IsGiven}
use Rattle.link_needs.specs.Linking.{Linking}
use Rattle.module_table.specs.Modules.{AreInfos}
use Rattle.module_table.specs.declared.modules.ImageInfo.{ImageInfo}
use Rattle.object_faults.specs.declared.class.SectionClass.TheVariants.{Writable}
use Rattle.meant_images.specs.declared.images.Tables.{Tables}
use Rattle.whole_meaning.specs.Loads.{info_of}

-- the images can be linked
pub record AreSound (ls : List Linking) : Type 0 where
  pub given : All IsGiven ls
  pub sound : All IsSound ls
  pub stray : All HasNoStray ls

-- the tables are those of this image of the job
pub record AreTables (ls : List Linking) (l : Linking) (t : Tables) : Type 0 where
  pub all_are : t.marks.all ≡ ls
  pub own_is : t.marks.own ≡ l
  pub still_are : AreStill l t.still
  pub writable_is : IsClass l (Writable true) t.writable

pub record HoldsImages (ls : List Linking) (infos : List ImageInfo) (tables : List Tables) : Type 0 where
  pub sound : AreSound ls
  pub infos_are : infos ≡ map info_of ls
  pub kept : AreInfos infos
  pub count : length tables ≡ length ls
  pub each : (i : ℕ) (l : Linking) (t : Tables) → slice_get ls i ≡ Some l → slice_get tables i ≡ Some t
      → AreTables ls l t

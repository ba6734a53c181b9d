-- What the tables of the code hold, by the state after a history.
use Rattle.std.specs.Prelude.{◌≡◌, ◌≤◌, ◌<◌, ◌+◌, ◌^◌, ℕ, count_by, true, false, if◌then◌else◌, List, length}
use Rattle.std.specs.Prelude.{All, slice_index, slice_index_or, Option, Some, None}
use Rattle.module_table.specs.declared.TheConstants.{MOST_INSTANCES, MOST_IDS}
use Rattle.module_table.specs.declared.modules.Module.{Module}
use Rattle.module_table.specs.declared.table.ModuleTable.TheInside.{Inside}
use Rattle.module_table.specs.Modules.{IsInfo, no_module, is_loaded}
use Rattle.module_table.specs.Start.{HasSmallId, MarksIds}
use Rattle.module_table.specs.Past.{Past, module_of, has_id, next_offset}
use Rattle.module_table.specs.PastLaws.{image_of, instance_of, has_instance}

abbrev pub past_of : Inside → Past
past_of t = record { seen = t.seen; made = t.made; taken = t.taken; limit = t.limit; modules = t.modules.items }

-- a loaded image's numbers: its instance was made, and its id is from 1 to 64
pub record IsNumbered (made : ℕ) (m : Module) : Type 0 where
  pub instance : is_loaded m ≡ true → m.instance ≤ made
  pub id : HasSmallId m

-- what holds of the state after every history
pub record IsPast (p : Past) : Type 0 where
  pub few : length p.modules ≤ 65
  pub none : module_of p 0 ≡ no_module
  pub made : p.made ≤ MOST_INSTANCES
  pub taken : p.taken ≤ p.limit
  pub limit : p.limit < 2 ^ 28
  pub infos : All (λ (m : Module). IsInfo m.info) p.modules
  pub uses : All (λ (m : Module). m.uses ≤ p.seen + 1) p.modules
  pub numbered : All (IsNumbered p.made) p.modules

-- the table has each loaded image under its key
pub record Finds (key : Module → ℕ) (slots : List ℕ) (modules : List Module) : Type 0 where
  pub at : (image : ℕ) → is_loaded (slice_index_or modules image no_module) ≡ true
      → slice_index slots (key (slice_index_or modules image no_module)) ≡ image

-- the tables for a state: images by instance and by id, and the ids in use
pub record AreTables (p : Past) (by_instance by_id : List ℕ) (word : ℕ) : Type 0 where
  pub past : IsPast p
  pub instances : length by_instance ≡ MOST_INSTANCES + 1
  pub ids : length by_id ≡ MOST_IDS + 1
  pub instance_slots : Finds (λ m. m.instance) by_instance p.modules
  pub id_slots : Finds (λ m. m.id) by_id p.modules
  pub marks : MarksIds word p.modules

abbrev pub HoldsTables : Inside → Type 0
HoldsTables t = AreTables (past_of t) t.image_by_instance.items t.image_by_id.items t.ids.word

-- two entries of the images are not loaded: that of no image, and another
abbrev pub HasFreeId : Past → Type 0
HasFreeId p = count_by is_loaded p.modules + 2 ≤ length p.modules

-- an open of the image is accepted, and makes an instance
pub record CanLoad (p : Past) (image : ℕ) : Type 0 where
  pub late : (module_of p image).info.late ≡ true
  pub unloaded : is_loaded (module_of p image) ≡ false
  pub below : p.made < MOST_INSTANCES
  pub room : (module_of p image).info.statics ≡ true → next_offset p (module_of p image) ≤ p.limit

-- no other image is loaded as the instance
abbrev pub IsTheImage : Past → ℕ → Option ℕ → Type 0
IsTheImage p instance None = image_of p instance ≡ None
IsTheImage p instance (Some image) =
    image_of p instance ≡ (if has_instance instance (module_of p image) then Some image else None)

-- no other image is loaded with the id
abbrev pub IsTheImageUnder : Past → ℕ → Option ℕ → Type 0
IsTheImageUnder p id None = instance_of p id ≡ None
IsTheImageUnder p id (Some image) =
    instance_of p id ≡ (if has_id id (module_of p image) then Some (module_of p image).instance else None)

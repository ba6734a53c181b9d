-- The invariant that the code of a vector keeps.
use Rattle.std.specs.Prelude.{◌≡◌, ◌≤◌, ℕ, true, List, length, Some}
use Rattle.module_table.specs.declared.TheConstants.{SURPLUS}
use Rattle.module_table.specs.declared.events.Event.{Event}
use Rattle.module_table.specs.Modules.{is_loaded}
use Rattle.module_table.specs.Past.{Past, past, module_of}
use Rattle.module_table.specs.Past.{IsLegal}
use Rattle.loaded_modules.specs.Images.{JobImages, infos, last_offset}
use Rattle.thread_vector.specs.Vectors.{Vector, slot_of, is_number}

-- some history of the job's images leaves this state
pub record IsLeftBy (images : JobImages) (p : Past) : Type 0 where
  pub events : List Event
  pub legal : IsLegal (infos images) (last_offset images) events
  pub left : p ≡ past (infos images) (last_offset images) events

-- the slots match the events seen: each belongs to an instance that was made, and is as long as the image's blocks are
pub record IsVector (v : Vector) : Type 0 where
  pub low : 1 ≤ v.thread
  pub high : v.thread ≤ 64
  pub left : IsLeftBy v.images v.past
  pub long : length v.slots ≡ 65
  pub surplus : length (slot_of v.slots 0).bytes ≡ SURPLUS
  pub made : (k number : ℕ) → (slot_of v.slots k).instance ≡ Some number → number ≤ v.past.made
  pub sizes : (image : ℕ) → is_loaded (module_of v.past image) ≡ true
      → is_number (module_of v.past image).instance (slot_of v.slots (module_of v.past image).id).instance ≡ true
      → length (slot_of v.slots (module_of v.past image).id).bytes ≡ (module_of v.past image).info.size

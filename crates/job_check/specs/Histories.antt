-- Histories of a job's images, and what they leave.
use Rattle.std.specs.Prelude.{◌≡◌, ℕ, List, map}
use Rattle.link_needs.specs.Linking.{Linking}
use Rattle.module_table.specs.declared.events.Event.{Event}
use Rattle.module_table.specs.declared.modules.ImageInfo.{ImageInfo}
use Rattle.module_table.specs.Past.{IsLegal}
use Rattle.module_table.specs.Modules.{startup_end}
use Rattle.module_table.specs.Past.{Past, past}
use Rattle.whole_meaning.specs.Loads.{info_of}

abbrev pub infos_of : List Linking → List ImageInfo
infos_of ls = map info_of ls

-- how far below the thread pointer the block of the last image that starts with the program begins
abbrev pub last_of : List Linking → ℕ
last_of ls = startup_end (infos_of ls) 0

-- each event is accepted after those before it
abbrev pub IsHistory : List Linking → List Event → Type 0
IsHistory ls events = IsLegal (infos_of ls) (last_of ls) events

-- some history of the job's images leaves this state
pub record IsLeftBy (ls : List Linking) (p : Past) : Type 0 where
  pub events : List Event
  pub legal : IsHistory ls events
  pub left : p ≡ past (infos_of ls) (last_of ls) events

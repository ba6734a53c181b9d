-- What contracts see of a registry, and its answers as functions of the history.
use Rattle.std.specs.Prelude.{◌≡◌, ℕ, true, false, not, List, [], ◌∷◌, ◌++◌, length, Option, Some, None}
use Rattle.std.specs.Prelude.{Result, Ok, Err, IsOk}
use Rattle.module_table.specs.declared.modules.ImageInfo.{ImageInfo}
use Rattle.module_table.specs.declared.events.Event.{Event}
use Rattle.module_table.specs.declared.events.Opened.{Opened}
use Rattle.module_table.specs.declared.events.Closed.{Closed}
use Rattle.module_table.specs.declared.events.OpenRefusal.{OpenRefusal}
use Rattle.module_table.specs.declared.events.OpenRefusal.TheVariants.{OutOfMemory as NoRoomToOpen}
use Rattle.module_table.specs.declared.events.CloseRefusal.{CloseRefusal}
use Rattle.module_table.specs.declared.events.CloseRefusal.TheVariants.{OutOfMemory as NoRoomToClose}
use Rattle.module_table.specs.Modules.{is_loaded}
use Rattle.module_table.specs.Past.{Past, module_of, past, opened, released, open_refusal, close_refusal}

-- the images, how far below the thread pointer the last startup image's block begins, the events so far, and for how
-- many more events there is memory
pub record History : Type 0 where
  pub infos : List ImageInfo
  pub last_offset : ℕ
  pub events : List Event
  pub spare : ℕ

-- the state after the events so far
unfoldable pub left : History → Past
left h = past h.infos h.last_offset h.events

-- ---- events: a thread's line opens an image, or closes it

abbrev pub open_event : ℕ → ℕ → ℕ → Event
open_event thread line image = record { thread = thread; line = line; opens = true; image = image }

abbrev pub close_event : ℕ → ℕ → ℕ → Event
close_event thread line image = record { thread = thread; line = line; opens = false; image = image }

-- ---- changes; the reserved memory is left out

pub record IsSame (old new : History) : Type 0 where
  pub infos : new.infos ≡ old.infos
  pub last_offset : new.last_offset ≡ old.last_offset
  pub events : new.events ≡ old.events

pub record Adds (old : History) (event : Event) (new : History) : Type 0 where
  pub infos : new.infos ≡ old.infos
  pub last_offset : new.last_offset ≡ old.last_offset
  pub events : new.events ≡ old.events ++ event ∷ []

-- ---- answers

-- an answer, unless there is a refusal
abbrev pub unless : {A R : Type 0} → Option R → A → Result A R
unless None answer = Ok answer
unless (Some refusal) answer = Err refusal

-- the result of an open: the image's instance and id after it
unfoldable pub opened_of : History → ℕ → Opened
opened_of h image = let m =
    module_of (opened (left h) image) image in record { instance = m.instance; id = m.id; at = length h.events }

-- the result of a close: whether the image is no longer loaded after it
unfoldable pub closed_of : History → ℕ → Closed
closed_of h image = record
    { at = length h.events; gone = not (is_loaded (module_of (released (left h) image) image)) }

unfoldable pub open_answer : History → ℕ → Result Opened OpenRefusal
open_answer h image = unless (open_refusal (left h) image) (opened_of h image)

unfoldable pub close_answer : History → ℕ → Result Closed CloseRefusal
close_answer h image = unless (close_refusal (left h) image) (closed_of h image)

-- what an event is refused with: the refusal, or what stands for out of memory if there is none
abbrev pub IsRefusal : {R : Type 0} → History → Option R → R → R → Type 0
IsRefusal h (Some refusal) full found = refusal ≡ found
IsRefusal h None full found = (full ≡ found) × (h.spare ≡ 0)

-- a refusal of an open: the defined one, or out of memory if the event is not refused
abbrev pub OpenRefused : History → ℕ → OpenRefusal → Type 0
OpenRefused h image NoRoomToOpen = IsOk (open_answer h image) × (h.spare ≡ 0)
OpenRefused h image refusal = open_answer h image ≡ Err refusal

abbrev pub CloseRefused : History → ℕ → CloseRefusal → Type 0
CloseRefused h image NoRoomToClose = IsOk (close_answer h image) × (h.spare ≡ 0)
CloseRefused h image refusal = close_answer h image ≡ Err refusal

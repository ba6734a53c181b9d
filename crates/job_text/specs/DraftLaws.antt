-- What holds of lines that were read so far.
use Rattle.std.specs.Borrow.{Bor}
use Rattle.std.specs.HashMap.{HashMap, get_by}
use Rattle.std.specs.List.{All}
use Rattle.std.specs.Prelude.{◌≡◌, ℕ, ◌^◌, ◌≤◌, ◌<◌, Bool, false, IsTrue, List, length}
use Rattle.std.specs.Prelude.{Option, Some, is_some}
use Rattle.std.specs.Str.{bytes_eq}
use Rattle.job_text.specs.Actions.{IsAction}
use Rattle.job_text.specs.Listings.{IsListOf}
use Rattle.job_text.specs.Threads.{IsThread}
use Rattle.job_text.specs.declared.draft.Slot.TheVariants as slot
use Rattle.job_text.specs.declared.draft.Slot.{Slot}
use Rattle.job_text.specs.declared.draft.Plan.{Plan}
use Rattle.job_text.specs.declared.images.Image.{Image}
use Rattle.job_text.specs.Drafts.{Declared, image_count, slot_of}

-- the record of these parts
abbrev pub declared : Option Image → List Image → List Image → List Slot → Bool → Option ℕ → Option (List ℕ)
    → List (List Plan) → Declared
declared program starts lates mentions has_threads fuel order lines =
    record {
      program = program;
      starts = starts;
      lates = lates;
      mentions = mentions;
      has_threads = has_threads;
      fuel = fuel;
      order = order;
      lines = lines;
    }

-- the limits that always hold
pub record IsWithinLimits (d : Declared) : Type 0 where
  pub few_images : image_count d ≤ 64
  pub some_thread : 1 ≤ length d.lines
  pub few_threads : length d.lines ≤ 64
  pub one_thread : d.has_threads ≡ false → length d.lines ≡ 1
  pub fuel_within : (steps : ℕ) → d.fuel ≡ Some steps → (1 ≤ steps) × (steps < 2 ^ 32)

-- the map of names finds each declared image's slot
abbrev pub FindsSlots : {S : Type 0} → HashMap (Bor (List ℕ)) Slot S → Declared → Type 0
FindsSlots names d = (name : List ℕ) → get_by (λ key. bytes_eq name key.now) names ≡ slot_of d name

-- a slot where an image stands
abbrev pub IsSlot : Option Image → List Image → List Image → Slot → Type 0
IsSlot program starts lates slot.Program = IsTrue (is_some program)
IsSlot program starts lates (slot.Start index) = index < length starts
IsSlot program starts lates (slot.Late index) = index < length lates

-- a line of a thread whose image is declared
pub record IsPlan (program : Option Image) (starts lates : List Image) (plan : Plan) : Type 0 where
  pub placed : IsSlot program starts lates plan.slot
  pub shown : IsAction plan.action

-- each line of each thread has an image that is declared
abbrev pub ArePlans : Declared → Type 0
ArePlans d = All (All (IsPlan d.program d.starts d.lates)) d.lines

-- an order names declared threads
abbrev pub IsOrder : Declared → Type 0
IsOrder d = (order : List ℕ) → d.order ≡ Some order → All (IsThread (length d.lines)) order

-- what always holds of a draft
pub record IsDraft {S : Type 0} (names : HashMap (Bor (List ℕ)) Slot S) (d : Declared) : Type 0 where
  pub within : IsWithinLimits d
  pub slots : FindsSlots names d
  pub plans : ArePlans d
  pub order_named : IsOrder d
  pub mentioned : IsListOf (IsSlot d.program d.starts d.lates) d.mentions

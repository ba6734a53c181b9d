-- What the lines of a job that were read so far declare.
use Rattle.std.specs.List.{position_from}
use Rattle.std.specs.Option.{option_map, option_or}
use Rattle.std.specs.Prelude.{ℕ, ◌+◌, Bool, false, if◌then◌else◌, List, [], ◌∷◌, length}
use Rattle.std.specs.Prelude.{Option, Some, None, is_some}
pub use Rattle.job_text.specs.Images.{is_named}
use Rattle.job_text.specs.declared.draft.Slot.TheVariants as slot
use Rattle.job_text.specs.declared.draft.Slot.{Slot}
use Rattle.job_text.specs.declared.draft.Plan.{Plan}
use Rattle.job_text.specs.declared.images.Image.{Image}

-- the images in their groups, each in the order of the job; the images' slots in the order of their lines; whether
-- there was a line `threads`; the numbers of `fuel` and `order`; and the lines of each thread, thread 1 first
pub record Declared : Type 0 where
  pub program : Option Image
  pub starts : List Image
  pub lates : List Image
  pub mentions : List Slot
  pub has_threads : Bool
  pub fuel : Option ℕ
  pub order : Option (List ℕ)
  pub lines : List (List Plan)

-- before the first line there is one thread
abbrev pub nothing_declared : Declared
nothing_declared = record {
  program = None;
  starts = [];
  lates = [];
  mentions = [];
  has_threads = false;
  fuel = None;
  order = None;
  lines = [] ∷ [];
}

-- how many images there are
abbrev pub image_count : Declared → ℕ
image_count d = (if is_some d.program then 1 else 0) + length d.starts + length d.lates

-- the program's slot, if the program has the name
abbrev pub program_slot : List ℕ → Option Image → Option Slot
program_slot name None = None
program_slot name (Some image) = if is_named name image then Some slot.Program else None

-- the slot of the image with a name, among a program, start images and late ones
unfoldable pub slot_among : Option Image → List Image → List Image → List ℕ → Option Slot
slot_among program starts lates name =
    option_or (program_slot name program)
    (option_or (option_map slot.Start (position_from (is_named name) 0 starts))
    (option_map slot.Late (position_from (is_named name) 0 lates)))

-- the slot of the image with a name that an earlier line declares
abbrev pub slot_of : Declared → List ℕ → Option Slot
slot_of d name = slot_among d.program d.starts d.lates name

-- The results of the calls that read a line.
use Rattle.std.specs.List.{filter_map}
use Rattle.std.specs.Prelude.{◌≡◌, ℕ, true, false, List, drop, length, Option, Some, None, Result, Ok, Err, Vec}
use Rattle.std.specs.declared.alloc.Global.{Global}
use Rattle.job_text.specs.Drafts.{Declared}
use Rattle.job_text.specs.LineFaults.{has_bad_number}
use Rattle.job_text.specs.Numbers.{number}
use Rattle.job_text.specs.declared.draft.Slot.TheVariants as slot
use Rattle.job_text.specs.declared.draft.Slot.{Slot}
use Rattle.job_text.specs.declared.fault.Flaw.TheVariants as flaw
use Rattle.job_text.specs.declared.fault.Flaw.{Flaw}
use Rattle.job_text.specs.declared.fault.JobFaultKind.TheVariants as kind
use Rattle.job_text.specs.declared.fault.JobFaultKind.{JobFaultKind}
use Rattle.job_text.specs.declared.grammar.Heading.TheVariants as heading
use Rattle.link_faults.specs.declared.image_kind.ImageKind.TheVariants as image
use Rattle.link_faults.specs.declared.image_kind.ImageKind.{ImageKind}

-- a value is read if there is no fault; any result may be OutOfMemory instead
abbrev pub IsRead : {X : Type 0} → Option JobFaultKind → X → Result X Flaw → Type 0
IsRead fault value (Ok x) = (fault ≡ None) × (x ≡ value)
IsRead fault value (Err flaw.OutOfMemory) = Unit {0}
IsRead fault value (Err (flaw.Kind kind)) = fault ≡ Some kind

-- the threads of an order are read if each of its words names one
abbrev pub IsOrderAnswer : Declared → List (List ℕ) → Result (Vec ℕ Global) Flaw → Type 0
IsOrderAnswer d words (Ok order) =
    (has_bad_number d heading.Order words ≡ false) × (order.items ≡ filter_map number (drop 1 words))
IsOrderAnswer d words (Err flaw.OutOfMemory) = Unit {0}
IsOrderAnswer d words (Err (flaw.Kind found)) = (has_bad_number d heading.Order words ≡ true) × (found ≡ kind.Number)

-- the same for a line: the new draft has what the line declares
abbrev pub IsLineAnswer : Option JobFaultKind → Declared → Declared → Result (Unit {0}) Flaw → Type 0
IsLineAnswer fault after new (Ok _) = (fault ≡ None) × (new ≡ after)
IsLineAnswer fault after new (Err flaw.OutOfMemory) = Unit {0}
IsLineAnswer fault after new (Err (flaw.Kind kind)) = fault ≡ Some kind

-- the slot that the next image of a kind takes
abbrev pub next_slot : ImageKind → Declared → Slot
next_slot image.Exe d = slot.Program
next_slot image.Pie d = slot.Program
next_slot image.Start d = slot.Start (length d.starts)
next_slot image.Late d = slot.Late (length d.lates)

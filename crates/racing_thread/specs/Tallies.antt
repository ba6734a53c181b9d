-- How often a thread loads the history's length and takes the lock, by its printed lines.
use Rattle.std.specs.Prelude.{◌+◌, ℕ, Bool, true, false, List, [], ◌∷◌, ◌++◌, map, nat_lt, Option, is_some}
use Rattle.std.specs.Prelude.{if◌then◌else◌}
use Rattle.job_text.specs.declared.thread_lines.Action.{Action}
use Rattle.job_text.specs.declared.thread_lines.Action.TheVariants.{Call, Open, Close, Peek}
use Rattle.job_turns.specs.declared.asking.Ask.{Ask}
use Rattle.job_turns.specs.declared.asking.Ask.TheVariants.{Done, Look, Opens, Closes}
use Rattle.module_table.specs.declared.events.Event.{Event}
use Rattle.transcript_text.specs.declared.outcomes.Line.{Line as ShownLine}
use Rattle.lawful_points.specs.Told.{added_by}
use Rattle.thread_blocks.specs.Lines.{Line}

-- loads of the history's length, and turns at the lock
pub record Tally : Type 0 where
  pub loads : ℕ
  pub turns : ℕ

abbrev pub no_tally : Tally
no_tally = record { loads = 0; turns = 0 }

abbrev pub plus : Tally → Tally → Tally
plus x y = record { loads = x.loads + y.loads; turns = x.turns + y.turns }

-- ** one look

-- an open or a close takes the lock, and loads while it holds the history; any other look loads first, and takes the
-- lock only if there is something new
abbrev pub look_tally : Bool → ℕ → ℕ → Tally
look_tally true seen point = record { loads = 1; turns = 1 }
look_tally false seen point =
    if nat_lt seen point then record { loads = 2; turns = 1 } else record { loads = 1; turns = 0 }

abbrev pub is_registry : Ask → Bool
is_registry Done = false
is_registry (Look line) = false
is_registry (Opens line image) = true
is_registry (Closes line image) = true

-- ** printed looks

-- a look: whether its line opens or closes, how many events it saw, and the event that its turn added, if it added one
pub record Mark : Type 0 where
  pub registry : Bool
  pub number : ℕ
  pub added : Option Event

-- how many events have been seen after it
abbrev pub seen_after : Mark → ℕ
seen_after mark = if is_some mark.added then mark.number + 1 else mark.number

-- the tally of consecutive looks, before which this many events were seen
abbrev pub tally_from : ℕ → List Mark → Tally
tally_from seen [] = no_tally
tally_from seen (mark ∷ more) =
    plus (look_tally mark.registry seen mark.number) (tally_from (seen_after mark) more)

-- ** printed lines

abbrev pub is_registry_line : Action → Bool
is_registry_line (Call symbol a b c) = false
is_registry_line Open = true
is_registry_line Close = true
is_registry_line (Peek symbol size) = false

abbrev pub marks_of_line : ℕ → Line → ShownLine → List Mark
marks_of_line thread line said = map (λ (number : ℕ). record {
  registry = is_registry_line line.told.action;
  number = number;
  added = added_by thread line said.outcome;
}) said.points

abbrev pub marks_of : ℕ → List Line → List ShownLine → List Mark
marks_of thread [] said = []
marks_of thread (line ∷ lines) [] = []
marks_of thread (line ∷ lines) (said ∷ more) = marks_of_line thread line said ++ marks_of thread lines more

-- the tally of all lines of a thread
abbrev pub tally_of : ℕ → List Line → List ShownLine → Tally
tally_of thread lines said = tally_from 0 (marks_of thread lines said)

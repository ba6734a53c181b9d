-- A line whose own instance is closed ends where it next looks.
use Rattle.std.specs.Prelude.{◌≡◌, ℕ, List, length, Some, None}
use Rattle.module_table.specs.declared.events.Event.{Event}
use Rattle.thread_blocks.specs.declared.asked.Asked.{Asked}
use Rattle.thread_blocks.specs.Instances.{Loads, numbered_instance}
use Rattle.thread_blocks.specs.Lines.{Line}
use Rattle.thread_blocks.specs.RunTime.{Runs, thread_turns}
use Rattle.thread_blocks.specs.Turns.{Answered, Mid, Said, Thread, turn, with_last}
use Rattle.transcript_text.specs.declared.outcomes.LineFault.TheVariants.{Unloaded}
use Rattle.transcript_text.specs.declared.outcomes.Outcome.TheVariants.{Fault}
use Rattle.whole_meaning.specs.Meanings.{Meaning}
use Rattle.whole_meaning.specs.Threads.{Meant, code_owner, meant_turns}

-- the line that ends so, after these looks
abbrev pub unloaded_at : List ℕ → Said
unloaded_at points = record { points = points; ending = Answered (Fault Unloaded) }

-- the machine: the instance that asks is the one in whose tables the words of the question lie
abbrev pub ClosedAskersEnd : Type 0
ClosedAskersEnd = (l : Loads ℕ) (thread fuel : ℕ) (todo : List Line) (left : ℕ) (points : List ℕ) (h : Runs)
    (said : List Said) (old seen : List Event) (asked : Asked)
    → h.asked ≡ Some asked → numbered_instance l seen asked.asking ≡ None
    → let t : Thread Runs Line Event =
    record { todo = todo; phase = Mid left points h; said = said; seen = old } in
    (turn (thread_turns l thread fuel) t seen).said ≡ with_last said (unloaded_at (with_last points (length seen)))

-- the meaning: it is the one in whose code the sequence stands
abbrev pub MeantAskersEnd : Type 0
MeantAskersEnd = (m : Meaning) (thread fuel : ℕ) (todo : List Line) (left : ℕ) (points : List ℕ) (h : Meant)
    (said : List Said) (old seen : List Event)
    → code_owner m thread seen h.after.state.place ≡ None
    → let t : Thread Meant Line Event =
    record { todo = todo; phase = Mid left points h; said = said; seen = old } in
    (turn (meant_turns m thread fuel) t seen).said ≡ with_last said (unloaded_at (with_last points (length seen)))

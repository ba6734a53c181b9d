-- How a turn ends: a line is over, or a call waits for its next look.
use Rattle.std.specs.Prelude.{◌≡◌, ◌∷◌, ◌-◌, ℕ, [], List, Option, length}
use Rattle.guest_machine.specs.Run.{run}
use Rattle.guest_operands.specs.declared.state.State.{State}
use Rattle.job_meaning.specs.declared.values.Flag.{Flag}
use Rattle.job_meaning.specs.declared.values.Word.{Word}
use Rattle.module_table.specs.declared.events.Event.{Event}
use Rattle.module_table.specs.Past.{Past}
use Rattle.thread_blocks.specs.Lines.{Line, begun_by, event_by}
use Rattle.thread_blocks.specs.Turns.{Ending, Mid, Said, Thread, after_look, after_run, over_with, with_event}
use Rattle.whole_meaning.specs.declared.unclean.UncleanStep.{UncleanStep}
use Rattle.whole_meaning.specs.Jobs.{unclean_ending}
use Rattle.whole_meaning.specs.Loads.{meaning_of}
use Rattle.whole_meaning.specs.Threads.{Meant, code_owner, meant_show, meant_steps, meant_turns, ops, resumed_for}
use Rattle.thread_turns.specs.declared.parts.Ended.{Ended}
use Rattle.thread_turns.specs.declared.parts.Ended.TheVariants.{Over, Waits}
use Rattle.job_check.specs.declared.thread.Waiting.{Waiting}
use Rattle.marked_memory.specs.Kept.{HasSeen, Kept, held_at}
use Rattle.job_check.specs.Lines.{HasLeft, KeepsThread}
use Rattle.job_check.specs.Running.{KeepsJob}

abbrev pub Taken : Type 0
Taken = Ended (Option UncleanStep) Waiting

-- a thread whose line of this number is over, and that has this memory and has seen these events
pub record IsOver (line : ℕ) (k : Kept) (unclean : Option UncleanStep) (points : List ℕ) (now : List Event)
    (todo : List Line) (said : List Said) (seen : List Event) (t : Thread Meant Line Event) : Type 0 where
  pub ending : Ending
  pub state : State Word Flag
  pub is : t ≡ over_with todo said seen points ending (held_at now state k)
  pub unclean_is : unclean_ending k.thread line ending ≡ unclean

abbrev pub TookAs : ℕ → Kept → Taken → List ℕ → List Event → List Line → List Said → List Event
    → Thread Meant Line Event → Type 0
TookAs line k (Over unclean) points now todo said seen t = IsOver line k unclean points now todo said seen t
TookAs line k (Waits call) points now todo said seen t = t ≡ record {
  todo = todo;
  phase = Mid call.steps points (held_at now call.state k);
  said = said;
  seen = seen;
}

-- ** what the parts of a turn do

-- a call runs for at most `count` steps, up to its end or its next look
pub record RunsTo (line count : ℕ) (state : State Word Flag) (k : Kept) (taken : Taken) (new : Kept) : Type 0 where
  pub keeps : KeepsJob k new
  pub runs : (now seen : List Event) (points : List ℕ) (todo : List Line) (said : List Said) → HasSeen k now
      → TookAs line new taken points now todo said seen
      (after_run todo said seen points
      (run (meant_steps (meaning_of k.images) k.thread) count (held_at now state k)))

-- a line begins, after its look
pub record BeginsTo (fuel : ℕ) (line : Line) (p : Past) (k : Kept) (taken : Taken) (p' : Past)
    (new : Kept) : Type 0 where
  pub keeps : KeepsThread k new
  pub begins : (seen : List Event) (state : State Word Flag) (todo : List Line) (said : List Said)
      → HasLeft k seen p → HasSeen k seen
      → let m = meaning_of k.images in
      let now = with_event seen (event_by m.loads k.thread line seen) in
      HasLeft new now p'
      × TookAs line.number new taken (length seen ∷ []) now todo said seen
      (after_look (meant_turns m k.thread fuel) fuel todo said seen (length seen ∷ [])
      (begun_by ops m.loads (meant_show m k.thread line seen) k.thread line seen (held_at seen state k)
      line.told.action))

-- a call that waited goes on, after its look
pub record ResumesTo (fuel line : ℕ) (c : Waiting) (k : Kept) (taken : Taken) (new : Kept) : Type 0 where
  pub keeps : KeepsJob k new
  pub resumes : (seen : List Event) (points : List ℕ) (todo : List Line) (said : List Said) → HasSeen k seen
      → let m = meaning_of k.images in
      TookAs line new taken points seen todo said seen
      (after_look (meant_turns m k.thread fuel) (c.steps - 1) todo said seen points
      (resumed_for m k.thread (held_at seen c.state k) (code_owner m k.thread seen c.state.place)))

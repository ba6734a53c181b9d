-- Steps and runs of a thread's call, as clauses speak of them: they are those of the definition, over any history that
-- leaves the same live instances.
use Rattle.std.specs.Prelude.{◌≡◌, ℕ, List}
use Rattle.guest_machine.specs.Run.{Next, Goes as GoesTo, Ends as EndsWith, Looks as LooksAt, Outcome}
use Rattle.guest_machine.specs.Run.{Ended as EndedWith, Waits as WaitsAt, run}
use Rattle.guest_operands.specs.declared.state.State.{State}
use Rattle.guest_operands.specs.declared.stop.Stop.{Stop}
use Rattle.job_meaning.specs.declared.values.Flag.{Flag}
use Rattle.job_meaning.specs.declared.values.Word.{Word}
use Rattle.module_table.specs.declared.events.Event.{Event}
use Rattle.thread_blocks.specs.Turns.{Answered, Begun, Calls, Says, Stopped}
use Rattle.transcript_text.specs.declared.outcomes.LineFault.TheVariants.{Unloaded as IsUnloaded}
use Rattle.transcript_text.specs.declared.outcomes.Outcome.TheVariants.{Fault}
use Rattle.whole_meaning.specs.Loads.{meaning_of}
use Rattle.whole_meaning.specs.Threads.{Meant, code_owner, meant_steps, resumed_for}
use Rattle.thread_turns.specs.declared.parts.Ended.{Ended}
use Rattle.thread_turns.specs.declared.parts.Ended.TheVariants.{Over, Waits}
use Rattle.thread_turns.specs.declared.parts.Resumed.{Resumed}
use Rattle.thread_turns.specs.declared.parts.Resumed.TheVariants.{Goes as GoesOn, Unloaded, Stops as EndsSo}
use Rattle.job_check.specs.declared.step.Stepped.{Stepped}
use Rattle.job_check.specs.declared.step.Stepped.TheVariants.{Goes, Looks, Ends}
use Rattle.marked_memory.specs.Kept.{HasSeen, Kept, held_at}

-- the memory belongs to the same thread of the same job, with the same live instances
pub record KeepsJob (old new : Kept) : Type 0 where
  pub thread : new.thread ≡ old.thread
  pub images : new.images ≡ old.images
  pub live : new.live ≡ old.live
  pub lent : new.lent ≡ old.lent

-- ** steps

abbrev pub stepped_as : Stepped → Meant → Next Meant
stepped_as Goes h = GoesTo h
stepped_as Looks h = LooksAt h
stepped_as (Ends stop) h = EndsWith stop

-- a stop or a look changes nothing
abbrev pub StaysUnless : Stepped → State Word Flag → Kept → State Word Flag → Kept → Type 0
StaysUnless Goes state k state' k' = Unit {0}
StaysUnless Looks state k state' k' = (state' ≡ state) × (k' ≡ k)
StaysUnless (Ends stop) state k state' k' = (state' ≡ state) × (k' ≡ k)

pub record Steps (state : State Word Flag) (k : Kept) (stepped : Stepped) (state' : State Word Flag) (k' : Kept)
    : Type 0 where
  pub keeps : KeepsJob k k'
  pub stays : StaysUnless stepped state k state' k'
  pub steps : (seen : List Event) → HasSeen k seen
      → (meant_steps (meaning_of k.images) k.thread).step (held_at seen state k)
      ≡ stepped_as stepped (held_at seen state' k')

-- ** runs

abbrev pub Ran : Type 0
Ran = Ended (Stop × ℕ) ℕ

abbrev pub ran_as : Ran → Meant → Outcome Meant
ran_as (Over (stop, left)) h = EndedWith stop left h
ran_as (Waits left) h = WaitsAt left h

-- a run of at most `count` steps
pub record RunsOn (count : ℕ) (state : State Word Flag) (k : Kept) (ran : Ran) (state' : State Word Flag) (k' : Kept)
    : Type 0 where
  pub keeps : KeepsJob k k'
  pub runs : (seen : List Event) → HasSeen k seen
      → run (meant_steps (meaning_of k.images) k.thread) count (held_at seen state k)
      ≡ ran_as ran (held_at seen state' k')

-- ** a look in the middle of a line

abbrev pub resumed_as : Resumed → Meant → Begun Meant
resumed_as GoesOn h = Calls h
resumed_as Unloaded h = Says (Answered (Fault IsUnloaded)) h
resumed_as (EndsSo stop) h = Says (Stopped stop) h

-- after the look
pub record Resumes (state : State Word Flag) (k : Kept) (resumed : Resumed) (state' : State Word Flag) (k' : Kept)
    : Type 0 where
  pub keeps : KeepsJob k k'
  pub resumes : (seen : List Event) → HasSeen k seen → let m = meaning_of k.images in
      resumed_for m k.thread (held_at seen state k) (code_owner m k.thread seen state.place)
      ≡ resumed_as resumed (held_at seen state' k')

-- Where no image has data, steps of the machine and its looks keep blocks alone.
use Rattle.std.proofs.Common.{ℕ, Bool, true, false, List, Option, Some, None}
use Rattle.std.specs.Prelude.{if◌then◌else◌, is_none}
use Rattle.guest_arithmetic.specs.Plain.{plain_operations}
use Rattle.guest_machine.specs.Ranges.{Range, grants, with_byte}
use Rattle.guest_operands.specs.declared.space.Access.TheVariants.{Write}
use Rattle.guest_machine.specs.Run.{Next, Goes, Ends, Looks}
use Rattle.loaded_modules.specs.declared.instance.Instance.{Instance}
use Rattle.module_table.specs.declared.events.Event.{Event}
use Rattle.thread_blocks.specs.declared.asked.Asked.{Asked}
use Rattle.thread_blocks.specs.Held.{Owner, looked, reached}
use Rattle.thread_blocks.specs.Instances.{Loads, instance_with_id, numbered_instance}
use Rattle.thread_blocks.specs.JobStatements.{HasNoData}
use Rattle.thread_blocks.specs.RunTime.{Runs, thread_turns, answered, resume_line, resumed_by, resumed_in, shows}
use Rattle.thread_blocks.specs.RunTime.{thread_accesses, thread_steps, resumed}
use Rattle.thread_blocks.specs.Spaces.{Space, space_accesses, stack_range}
use Rattle.thread_blocks.specs.Turns.{Answered, Begun, Calls, Says}
use Rattle.transcript_text.specs.declared.outcomes.LineFault.TheVariants.{Unloaded}
use Rattle.transcript_text.specs.declared.outcomes.Outcome.TheVariants.{Fault}
use Rattle.thread_blocks.proofs.Alone.{KeepsBlocks, NextHolds}
use Rattle.thread_blocks.proofs.Blocks.{AreBlocks, HoldsBlocks, look_holds, reach_holds, written_are}
use Rattle.thread_blocks.proofs.BlocksBegun.{BegunHolds, begin_holds, either_begins}
use Rattle.thread_blocks.proofs.Steps as steps

module _ (l : Loads ℕ) (none : HasNoData l) (thread : ℕ) where
  -- ** steps

  -- a memory whose ranges are these blocks
  abbrev Keeps : List Owner → Space Event ℕ → Type 0
  Keeps os m = AreBlocks os m.own

  either_put : (g : Bool) (os : List Owner) (m : Space Event ℕ) (stack : List ℕ) (own : List (Range ℕ))
      → AreBlocks os m.own
      → AreBlocks os own → AreBlocks os (if g then record m { stack = stack } else record m { own = own }).own
  either_put true os m stack own h k = h
  either_put false os m stack own h k = k

  put_keeps : (os : List Owner) (m : Space Event ℕ) (place byte : ℕ) → Keeps os m
      → Keeps os ((thread_accesses l thread).put m place byte)
  unfolding thread_accesses space_accesses
  put_keeps os m place byte are =
      either_put (grants Write (stack_range _ m.stack) place) os m _ (with_byte m.own place byte) are
      (written_are os m.own place byte are)

  next_are : (next : Next Runs) → steps.NextHolds l thread Keeps put_keeps next → NextHolds next
  next_are (Goes h) holds = holds
  next_are (Ends stop) holds = tt
  next_are (Looks h) holds = holds

  step_holds : (h : Runs) → HoldsBlocks h → NextHolds ((thread_steps l thread).step h)
  step_holds h holds =
      next_are ((thread_steps l thread).step h) (steps.step_holds l thread Keeps put_keeps h holds)

  -- ** a look in the middle of a line

  begun_are : (begun : Begun Runs) → steps.BegunHolds l thread Keeps put_keeps begun → BegunHolds begun
  begun_are (Says ending h) holds = holds
  begun_are (Calls h) holds = holds

  resumed_in_holds : (asked : Asked) (h : Runs) (x : Option Instance) → HoldsBlocks h
      → BegunHolds (resumed_in l thread asked h x)
  resumed_in_holds asked h None holds = holds
  resumed_in_holds asked h (Some x) holds =
      let now = reach_holds l none thread x h in
      begun_are (resumed (reached l thread x h) (answered l thread asked x (reached l thread x h)))
      (steps.resumed_holds l thread Keeps put_keeps asked x (reached l thread x h) now)

  resumed_by_holds : (seen : List Event) (h : Runs) (asked : Option Asked) → HoldsBlocks h
      → BegunHolds (resumed_by l thread seen h asked)
  resumed_by_holds seen h None holds = holds
  resumed_by_holds seen h (Some asked) holds =
      either_begins (is_none (numbered_instance l seen asked.asking)) (Says (Answered (Fault Unloaded)) h)
      (resumed_in l thread asked h (instance_with_id l seen asked.id)) holds
      (resumed_in_holds asked h (instance_with_id l seen asked.id) holds)

  resume_holds : (seen : List Event) (h : Runs) → BegunHolds (resume_line l thread seen h)
  unfolding resume_line
  resume_holds seen h =
      resumed_by_holds seen (looked l thread seen (record h { asked = None })) h.asked
      (look_holds l none thread seen (record h { asked = None }))

  -- ** all that a thread does

  pub keeps_blocks : (fuel : ℕ) → KeepsBlocks (thread_turns l thread fuel)
  unfolding thread_turns
  keeps_blocks fuel = record {
    begin = λ line seen h. begin_holds plain_operations l none (shows l thread) thread line seen h;
    resume = λ seen h. resume_holds seen h;
    step = λ h holds. step_holds h holds;
  }

-- The data that threads of linked images share, in the machine and in what their objects mean.
use Rattle.std.specs.Prelude.{ℕ, List}
use Rattle.guest_machine.specs.Access.{Accesses}
use Rattle.job_text.specs.declared.thread_lines.ThreadLine.{ThreadLine}
use Rattle.link_needs.specs.Linking.{Linking}
use Rattle.loaded_bytes.specs.Laws.{images_of}
use Rattle.module_table.specs.declared.events.Event.{Event}
use Rattle.shared_data.specs.Changes.{Change}
use Rattle.shared_data.specs.Laws.{DataLast, DataThere, ReadsLast}
use Rattle.shared_data.specs.Steps.{machine_changes, meant_changes}
use Rattle.thread_blocks.specs.Held.{Held}
use Rattle.thread_blocks.specs.Instances.{Loads}
use Rattle.thread_blocks.specs.JobLoads.{job_loads}
use Rattle.thread_blocks.specs.JobWorlds.{Shared, job_start}
use Rattle.thread_blocks.specs.Lines.{Line}
use Rattle.thread_blocks.specs.RunTime.{thread_accesses, thread_turns}
use Rattle.thread_blocks.specs.Spaces.{Space}
use Rattle.thread_blocks.specs.Turns.{Turns}
use Rattle.whole_meaning.specs.Loads.{meaning_of}
use Rattle.whole_meaning.specs.Threads.{meant_accesses, meant_turns, ops}
use Rattle.linked_jobs.specs.Ready.{AreJob}
use Rattle.guest_arithmetic.specs.Plain.{plain_operations}

-- threads share data in any order of their turns
pub record ShareData {W F B : Type 0} (l : Loads B) (x : ℕ → Turns (Held W F B) Line Event)
    (changes : ℕ → Held W F B → List (Change B)) (acc : ℕ → Accesses (Space Event B) B)
    (start : Shared W F B Line) : Type 0 where
  -- between turns each byte is what the last change of it left, a store or its instance's load
  pub last : DataLast l x changes acc start
  -- so is what a thread reads at an address of data, at each step of its turn
  pub reads : ReadsLast l x changes acc start
  -- there, at its own address, is each byte of the data of each instance that the thread has seen live
  pub there : DataThere l x changes acc start

-- the threads of each job that links do, clean or not, and so does what its objects mean
abbrev pub LinkedThreadsShareData : Type 0
LinkedThreadsShareData = (ls : List Linking) (fuel : ℕ) (lines : List (List ThreadLine)) → AreJob ls
    → let q = job_loads (images_of ls) in
    let m = meaning_of ls in
    ShareData q (λ thread. thread_turns q thread fuel) (λ thread. machine_changes q thread)
    (λ thread. thread_accesses q thread) (job_start plain_operations q lines)
    × ShareData m.loads (λ thread. meant_turns m thread fuel) (λ thread. meant_changes m thread)
    (λ thread. meant_accesses m thread) (job_start ops m.loads lines)

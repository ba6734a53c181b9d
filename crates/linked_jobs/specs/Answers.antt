-- What a thread of linked images does while its meaning is in a call, and what it finds there by TLS sequences.
use Rattle.std.specs.Prelude.{◌≡◌, ◌⊎◌, ◌+◌, ◌*◌, ◌≤◌, ℕ, Bool, List, Some, None, length}
use Rattle.address_map.specs.Map.{pointer_of}
use Rattle.guest_machine.specs.Run.{Stepping, Goes, Looks}
use Rattle.guest_machine.specs.Simulate.{Moves}
use Rattle.guest_machine.specs.Use.{plus}
use Rattle.job_meaning.specs.declared.values.Byte.{Byte}
use Rattle.job_meaning.specs.declared.values.Flag.{Flag}
use Rattle.job_meaning.specs.declared.values.Word.{Word}
use Rattle.job_text.specs.declared.thread_lines.ThreadLine.{ThreadLine}
use Rattle.link_needs.specs.Linking.{Linking}
use Rattle.known_instances.specs.Known.{known_in}
use Rattle.loaded_bytes.specs.Laws.{images_of}
use Rattle.loaded_modules.specs.declared.instance.Instance.{Instance}
use Rattle.module_table.specs.declared.events.Event.{Event}
use Rattle.module_table.specs.Past.{IsLegal}
use Rattle.sequence_forms.specs.declared.forms.Form.TheVariants.{DescCall}
use Rattle.shared_data.specs.Told.{steps_of}
use Rattle.thread_blocks.specs.Instances.{Loads, block_start}
use Rattle.thread_blocks.specs.JobLoads.{job_loads}
use Rattle.thread_blocks.specs.JobWorlds.{Shared, shared_order, with_data, job_start}
use Rattle.thread_blocks.specs.Lines.{Line, event_by}
use Rattle.thread_blocks.specs.RunTime.{Runs, resume_line, thread_steps, thread_turns}
use Rattle.thread_blocks.specs.Turns.{Begun, Calls, Thread, Turns, at_number, with_last}
use Rattle.thread_blocks.specs.TurnsAlike.{HasUnclean}
use Rattle.thread_blocks.specs.Turns.{IsFront}
use Rattle.whole_meaning.specs.declared.sequences.Sequence.{Sequence}
use Rattle.whole_meaning.specs.Laws.{IsGeneral}
use Rattle.whole_meaning.specs.Loads.{meaning_of}
use Rattle.whole_meaning.specs.Meanings.{Meaning}
use Rattle.whole_meaning.specs.Sequences.{variable_address, variable_distance}
use Rattle.whole_meaning.specs.Threads.{Meant, meant_steps, meant_turns, resume_meant, sequence_at, ops}
use Rattle.lawful_points.specs.Laws.{AtFronts}
use Rattle.lawful_points.specs.Raced.{first_of, raced_of}
use Rattle.order_laws.specs.Worlds.{IsSomeUnclean}
use Rattle.tied_fields.specs.Settings.{setting_of}
use Rattle.tied_meaning.specs.Threads.{InCall}
use Rattle.begin_alike.specs.Laws.{meant_thread}
use Rattle.linked_jobs.specs.Ready.{AreReady}
use Rattle.guest_arithmetic.specs.Plain.{plain_operations}

-- ** the middle of a turn

-- a thread in its next turn, which sees these events: some steps after the turn's look, with this many left that it
-- may take
pub record StandsIn {S : Type 0} (x : Turns S Line Event) (t : Thread S Line Event) (seen : List Event) (left : ℕ)
    (s : S) : Type 0 where
  pub begun : ℕ × S
  pub begins : steps_of x t.todo t.phase seen ≡ Some begun
  pub count : ℕ
  pub moves : Moves x.steps count begun.1 s
  pub enough : count + left ≤ begun.0

-- wherever the meaning of a thread is in a turn, the machine's thread is in the turn after the same turns, and both
-- are in one call; the points are any at which the thread could look in the history, and its meaning's lines up to
-- there are clean
abbrev pub LinkedThreadsStandAlike : Type 0
LinkedThreadsStandAlike = (ls : List Linking) (history : List Event) → AreReady ls
    → IsLegal (job_loads (images_of ls)).infos (job_loads (images_of ls)).last_offset history
    → let m = meaning_of ls in
    let q = job_loads (images_of ls) in
    (fuel thread : ℕ) → 1 ≤ thread → thread ≤ 64
    → (own : List ThreadLine) (points : List (List Event)) (seen : List Event)
    → AtFronts (thread_turns q thread fuel) (event_by q thread) history (first_of q thread own) (with_last points seen)
    → (HasUnclean (meant_thread m fuel thread own points).said → ⊥)
    → (left : ℕ) (h : Meant)
    → StandsIn (meant_turns m thread fuel) (meant_thread m fuel thread own points) seen left h
    → (h' : Runs) × (StandsIn (thread_turns q thread fuel) (raced_of q fuel thread own points) seen (4 * left) h'
    × InCall (setting_of ls history) m q history thread h h')

-- threads of a job after turns in some order, in the meaning and in the machine
abbrev pub meant_after : Meaning → ℕ → List (List ThreadLine) → List ℕ → Shared Word Flag Byte Line
meant_after m fuel lines order = shared_order (λ (i : ℕ). meant_turns m i fuel) (λ (i : ℕ). event_by m.loads i) order
    (job_start ops m.loads lines)

abbrev pub ran_after : Loads ℕ → ℕ → List (List ThreadLine) → List ℕ → Shared ℕ Bool ℕ Line
ran_after q fuel lines order = shared_order (λ (i : ℕ). thread_turns q i fuel) (λ (i : ℕ). event_by q i) order
    (job_start plain_operations q lines)

-- the same in any order of turns of a job, in which a turn of the thread is next, while it holds the data that the
-- turn before left; the history is any that begins with the events after that turn
abbrev pub LinkedJobsStandAlike : Type 0
LinkedJobsStandAlike = (ls : List Linking) (history : List Event) → AreReady ls
    → IsLegal (job_loads (images_of ls)).infos (job_loads (images_of ls)).last_offset history
    → let m = meaning_of ls in
    let q = job_loads (images_of ls) in
    (fuel : ℕ) (lines : List (List ThreadLine)) (order : List ℕ) (thread : ℕ) → length lines ≤ 64
    → IsFront (ran_after q fuel lines (with_last order thread)).events history
    → (IsSomeUnclean (meant_after m fuel lines order) → ⊥)
    → let w = meant_after m fuel lines order in
    let w' = ran_after q fuel lines order in
    (t : Thread Meant Line Event) → at_number w.threads thread ≡ Some t
    → (left : ℕ) (h : Meant) → StandsIn (meant_turns m thread fuel) (with_data w.shared t) w.events left h
    → (t' : Thread Runs Line Event) × ((h' : Runs) × ((at_number w'.threads thread ≡ Some t')
    × StandsIn (thread_turns q thread fuel) (with_data w'.shared t') w'.events (4 * left) h'
    × InCall (setting_of ls history) m q history thread h h'))

-- ** one sequence

-- x: steps, resume: a look in the middle of a call. One step; if it is a look, it sees these events and the call goes
-- on
abbrev pub TakesStep : {S : Type 0} → Stepping S → (List Event → S → Begun S) → List Event → S → S → Type 0
TakesStep {S} x resume seen s t = (x.over s ≡ None)
    × ((x.step s ≡ Goes t) ⊎ ((u : S) × ((x.step s ≡ Looks u) × (resume seen u ≡ Calls t))))

-- one to four such steps, of which only the last may be a look
abbrev pub TakesFew : {S : Type 0} → Stepping S → (List Event → S → Begun S) → List Event → S → S → Type 0
TakesFew {S} x resume seen s t = (k : ℕ) × ((u : S) × ((k ≤ 3) × Moves x k s u × TakesStep x resume seen u t))

-- two threads in one call, at a sequence that is clean in the meaning; if it looks, it sees these events
pub record AreAt (ls : List Linking) (history : List Event) (thread : ℕ) (s : Sequence) (seen : List Event) (h : Meant)
    (h' : Runs) : Type 0 where
  pub call : InCall (setting_of ls history) (meaning_of ls) (job_loads (images_of ls)) history thread h h'
  pub here : sequence_at (meaning_of ls) thread h.after.memory.seen h.after.state.place ≡ Some s
  pub front : IsFront seen history
  pub after : Meant
  pub takes : TakesStep (meant_steps (meaning_of ls) thread) (resume_meant (meaning_of ls) thread) seen h after

-- the machine's thread gets past the sequence in one to four steps, and then has this number in %rax
pub record Finds (q : Loads ℕ) (thread : ℕ) (s : Sequence) (seen : List Event) (h : Runs) (number : ℕ) : Type 0 where
  pub after : Runs
  pub takes : TakesFew (thread_steps q thread) (resume_line q thread) seen h after
  pub place : after.after.state.place ≡ s.next
  pub rax : after.after.state.registers.rax ≡ number

-- what a sequence finds that asks for a variable: its address in the thread's own block, or that address's distance
-- from the thread pointer. y is the instance with the target's number in the history; its blocks hold the variable
abbrev pub LinkedSequencesFind : Type 0
LinkedSequencesFind = (ls : List Linking) (history : List Event) → AreReady ls
    → IsLegal (job_loads (images_of ls)).infos (job_loads (images_of ls)).last_offset history
    → (thread : ℕ) → 1 ≤ thread → thread ≤ 64
    → (s : Sequence) (seen : List Event) (h : Meant) (h' : Runs) → AreAt ls history thread s seen h h'
    → let q = job_loads (images_of ls) in
    (y : Instance) × ((known_in q history s.target ≡ Some y)
    × (IsGeneral s.form → Finds q thread s seen h' (variable_address s (block_start thread y)))
    × (s.form ≡ DescCall → Finds q thread s seen h' (variable_distance s (block_start thread y) (pointer_of thread))))

-- so what a General Dynamic sequence finds is what the call of a descriptor finds for the same variable, plus the
-- thread pointer, wherever a thread runs them, and whether a linker kept either or rewrote it as Initial Exec or Local
-- Exec
abbrev pub LinkedAnswersAgree : Type 0
LinkedAnswersAgree = (ls : List Linking) (history : List Event) → AreReady ls
    → IsLegal (job_loads (images_of ls)).infos (job_loads (images_of ls)).last_offset history
    → (thread : ℕ) → 1 ≤ thread → thread ≤ 64
    → (general descriptor : Sequence) → IsGeneral general.form → descriptor.form ≡ DescCall
    → general.target ≡ descriptor.target → general.offset ≡ descriptor.offset
    → (seen : List Event) (h : Meant) (h' : Runs) → AreAt ls history thread general seen h h'
    → (seen' : List Event) (k : Meant) (k' : Runs) → AreAt ls history thread descriptor seen' k k'
    → let q = job_loads (images_of ls) in
    (distance : ℕ) × (Finds q thread descriptor seen' k' distance
    × Finds q thread general seen h' (plus distance (pointer_of thread)))

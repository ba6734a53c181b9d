-- A turn that begins a line, and one that goes on with a call: each leaves a thread that the runner stands for.
use Rattle.std.proofs.Common.{◌≡◌, ℕ, ◌+◌, ◌-◌, ◌*◌, List, [], ◌∷◌, ◌++◌, length, map, drop, Some, None, refl, sym, ap}
use Rattle.std.proofs.Common.{subst, ◌∙◌}
use Rattle.std.specs.Prelude.{option_and_then}
use Rattle.guest_arithmetic.specs.Plain.{plain_operations}
use Rattle.job_text.specs.declared.thread_lines.ThreadLine.{ThreadLine}
use Rattle.module_table.specs.declared.events.Event.{Event}
use Rattle.transcript_text.specs.declared.outcomes.Line.{Line as Printed}
use Rattle.thread_blocks.specs.Held.{Owned, looked, looked_at, owned_by, with_owned}
use Rattle.thread_blocks.specs.JobWorlds.{changed, numbered_lines}
use Rattle.thread_blocks.specs.Lines.{Line, begin_line, begun_by, event_by}
use Rattle.thread_blocks.specs.MachineTurns.{shown}
use Rattle.thread_blocks.specs.RunTime.{Runs, resume_line, shows, thread_turns}
use Rattle.thread_blocks.specs.Turns.{Idle, Mid, Phase, Said, after_look, next_line, turn_at, with_event, with_last}
use Rattle.job_turns.specs.Taking.{BeginsTo, ResumesTo, Taken, emptied, loads_in, run_after}
use Rattle.thread_space.specs.Kept.{HasSeen, Kept, blocks_of, held_at, owned_of}
use Rattle.job_turns.specs.Standing.{IsIdle, IsMid, PhaseIs, StandsAfter, Waiting, waits_at}
use Rattle.thread_space.proofs.Owners.{owned_again}
use Rattle.job_turns.proofs.TurnsTaken.{look_held, took_stands}

module _ (lines : List ThreadLine) (fuel : ℕ) (said : List Printed) (k k1 k2 : Kept) (taken : Taken) (seen : List Event)
    (xs : List (Owned ℕ)) (has_seen : HasSeen k1.vector seen) (stack : k.stack ≡ k1.stack)
    (at : looked_at (loads_in k1) k1.vector.thread seen (blocks_of k.vector ++ xs) ≡ owned_of k1.vector k1.pieces) where
  abbrev in_hands : Runs → Runs
  in_hands h = with_owned h (owned_by h ++ xs)

  -- ---- a line that begins

  idle_looks : (h : Runs) → IsIdle k h
      → looked (loads_in k1) k1.vector.thread seen (in_hands h) ≡ held_at seen h.after.state h.asked k1
  idle_looks h idle = look_held (loads_in k1) k1.vector.thread seen h (owned_by h ++ xs) k1
      (ap (λ ys. looked_at (loads_in k1) k1.vector.thread seen (ys ++ xs)) idle.blocks ∙ at) (idle.stack ∙ stack)

  begun_turn : (begun : ℕ) (line : Line) (rest : List Line) (before : List Said) (old : List Event) (h : Runs)
      → BeginsTo fuel line k1 taken k2 → IsIdle k h
      → rest ≡ numbered_lines (begun + 1) (drop begun lines) → map shown before ≡ map Some said
      → StandsAfter (run_after lines begun fuel said (length seen ∷ []) taken (emptied k2)) k2.pieces
      (with_event seen (event_by (loads_in k1) k1.vector.thread line seen))
      (turn_at (thread_turns (loads_in k1) k1.vector.thread fuel) (line ∷ rest) (Idle (in_hands h)) before old seen)
  unfolding thread_turns begin_line
  begun_turn begun line rest before old h begins idle left same =
      let now = with_event seen (event_by (loads_in k1) k1.vector.thread line seen) in
      let facts = begins.begins seen h.after.state h.asked rest before has_seen in
      let P : Runs → Type 0 =
      λ held. StandsAfter (run_after lines begun fuel said (length seen ∷ []) taken (emptied k2)) k2.pieces now
      (after_look (thread_turns (loads_in k1) k1.vector.thread fuel) (4 * fuel) rest before seen (length seen ∷ [])
      (begun_by plain_operations (loads_in k1)
      (shows (loads_in k1) k1.vector.thread) k1.vector.thread line seen held line.told.action)) in
      subst P (sym (idle_looks h idle))
      (took_stands lines begun fuel said taken k2 (length seen ∷ []) now rest before seen _ facts.1 facts.0 left same)

  pub begins_turn : (begun : ℕ) (line : ThreadLine) (todo : List Line) (phase : Phase Runs) (before : List Said)
      (old : List Event)
      → BeginsTo fuel (record { number = begun + 1; told = line }) k1 taken k2
      → todo ≡ record { number = begun + 1; told = line } ∷ numbered_lines (begun + 1 + 1) (drop (begun + 1) lines)
      → PhaseIs k fuel None phase → map shown before ≡ map Some said
      → StandsAfter (run_after lines (begun + 1) fuel said (length seen ∷ []) taken (emptied k2)) k2.pieces
      (with_event seen (option_and_then (λ x. event_by (loads_in k1) k1.vector.thread x seen) (next_line todo phase)))
      (turn_at (thread_turns (loads_in k1) k1.vector.thread fuel) todo (changed in_hands phase) before old seen)
  begins_turn begun line todo (Idle h) before old begins is idle same =
      let first : Line = record { number = begun + 1; told = line } in
      let P : List Line → Type 0 =
      λ ys. StandsAfter (run_after lines (begun + 1) fuel said (length seen ∷ []) taken (emptied k2)) k2.pieces
      (with_event seen (option_and_then (λ x. event_by (loads_in k1) k1.vector.thread x seen) (next_line ys (Idle h))))
      (turn_at (thread_turns (loads_in k1) k1.vector.thread fuel) ys (Idle (in_hands h)) before old seen) in
      subst P (sym is) (begun_turn (begun + 1) first _ before old h begins idle refl same)
  begins_turn begun line todo (Mid steps points h) before old begins is idle same = absurd idle

  -- ---- a call that goes on

  waits_looks : (before : List Event) (c : Waiting)
      → looked (loads_in k1) k1.vector.thread seen
      (record (in_hands (waits_at before c.machine.state c.asked k)) { asked = None })
      ≡ held_at seen c.machine.state None k1
  waits_looks before c =
      let h : Runs = record (waits_at before c.machine.state c.asked k) { asked = None } in
      look_held (loads_in k1) k1.vector.thread seen h (owned_by h ++ xs) k1
      (ap (λ ys. looked_at (loads_in k1) k1.vector.thread seen (ys ++ xs)) (owned_again (blocks_of k.vector))
      ∙ at) stack

  mid_looks : (c : Waiting) (steps : ℕ) (points : List ℕ) (h : Runs) → IsMid k fuel c steps points h
      → looked (loads_in k1) k1.vector.thread seen (record (in_hands h) { asked = None })
      ≡ held_at seen c.machine.state None k1
  mid_looks c steps points h mid =
      let P : Runs → Type 0 = λ x. looked (loads_in k1) k1.vector.thread seen (record (in_hands x) { asked = None })
      ≡ held_at seen c.machine.state None k1 in
      subst P (sym mid.holds) (waits_looks h.after.memory.seen c)

  -- such a turn adds no event
  mid_adds_none : (todo : List Line) (steps : ℕ) (points : List ℕ) (h : Runs)
      → with_event seen (option_and_then (λ x. event_by (loads_in k1) k1.vector.thread x seen)
      (next_line todo (Mid steps points h)))
      ≡ seen
  mid_adds_none [] steps points h = refl
  mid_adds_none (line ∷ todo) steps points h = refl

  mid_turn : (todo : List Line) (steps : ℕ) (points : List ℕ) (h : Runs) (before : List Said) (old : List Event)
      → turn_at (thread_turns (loads_in k1) k1.vector.thread fuel) todo (Mid steps points h) before old seen
      ≡ after_look (thread_turns (loads_in k1) k1.vector.thread fuel) (steps - 1) todo before seen
      (with_last points (length seen)) (resume_line (loads_in k1) k1.vector.thread seen h)
  unfolding thread_turns
  mid_turn [] steps points h before old = refl
  mid_turn (line ∷ todo) steps points h before old = refl

  resumed_turn : (begun : ℕ) (c : Waiting) (todo : List Line) (steps : ℕ) (points : List ℕ) (h : Runs)
      (before : List Said)
      → ResumesTo fuel c.machine c.asked k1 taken k2 → IsMid k fuel c steps points h
      → todo ≡ numbered_lines (begun + 1) (drop begun lines) → map shown before ≡ map Some said
      → StandsAfter (run_after lines begun fuel said (with_last c.points (length seen)) taken
      (emptied k2)) k2.pieces seen
      (after_look (thread_turns (loads_in k1) k1.vector.thread fuel) (steps - 1) todo before seen
      (with_last points (length seen)) (resume_line (loads_in k1) k1.vector.thread seen (in_hands h)))
  unfolding resume_line
  resumed_turn begun c todo steps points h before resumes mid is same =
      let facts = resumes.resumes seen (with_last c.points (length seen)) todo before has_seen in
      let asked_is : h.asked ≡ Some c.asked = ap (λ (x : Runs). x.asked) mid.holds in
      rw (mid_looks c steps points h mid, asked_is, mid.steps_left, mid.points_are)
      (took_stands lines begun fuel said taken k2
      (with_last c.points (length seen)) seen todo before seen _ facts.1 facts.0 is same)

  pub resumes_turn : (begun : ℕ) (c : Waiting) (todo : List Line) (phase : Phase Runs) (before : List Said)
      (old : List Event)
      → ResumesTo fuel c.machine c.asked k1 taken k2
      → todo ≡ numbered_lines (begun + 1) (drop begun lines)
      → PhaseIs k fuel (Some c) phase → map shown before ≡ map Some said
      → StandsAfter (run_after lines begun fuel said (with_last c.points (length seen)) taken (emptied k2)) k2.pieces
      (with_event seen (option_and_then (λ x. event_by (loads_in k1) k1.vector.thread x seen) (next_line todo phase)))
      (turn_at (thread_turns (loads_in k1) k1.vector.thread fuel) todo (changed in_hands phase) before old seen)
  resumes_turn begun c todo (Idle h) before old resumes is mid same = absurd mid
  resumes_turn begun c todo (Mid steps points h) before old resumes is mid same =
      rw (mid_adds_none todo steps points h, mid_turn todo steps points (in_hands h) before old)
      (resumed_turn begun c todo steps points h before resumes mid is same)

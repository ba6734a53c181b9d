-- Where no image has data, the turn with the shared data in a thread's hands is one that the thread takes alone.
use Rattle.std.proofs.Common.{◌≡◌, ◌∙◌, ◌+◌, ◌-◌, ◌++◌, ℕ, Bool, false, List, [], ◌∷◌, length, Option, Some, None, refl}
use Rattle.std.proofs.Common.{sym, ap, subst, append-nil}
use Rattle.std.specs.Prelude.{drop, slice_get}
use Rattle.std.proofs.lemmas.List.{drop_more}
use Rattle.guest_arithmetic.specs.Plain.{plain_operations}
use Rattle.guest_operands.specs.declared.state.State.{State}
use Rattle.guest_operands.specs.Use.{left}
use Rattle.job_text.specs.declared.thread_lines.ThreadLine.{ThreadLine}
use Rattle.module_data.specs.Pieces.{Piece}
use Rattle.module_table.specs.declared.events.Event.{Event}
use Rattle.module_table.specs.Past.{after}
use Rattle.thread_blocks.specs.declared.asked.Asked.{Asked}
use Rattle.thread_blocks.specs.Held.{Owned, looked, looked_at, owned_by, owners_of, ranges_in, with_owned}
use Rattle.thread_blocks.specs.Instances.{Loads}
use Rattle.thread_blocks.specs.JobLoads.{job_loads}
use Rattle.thread_blocks.specs.JobStatements.{HasNoData}
use Rattle.thread_blocks.specs.JobWorlds.{changed, held_in, numbered_lines, with_data}
use Rattle.thread_blocks.specs.Lines.{Line, begin_line, begun_by}
use Rattle.thread_blocks.specs.RunTime.{Runs, resume_line, shows, thread_turns}
use Rattle.thread_blocks.specs.Turns.{Said, Turns, Phase, Idle, Mid, Thread, after_look, turn, turn_at, with_last}
use Rattle.thread_blocks.proofs.Alone.{Holds, KeepsBlocks, look_keeps, without_none}
use Rattle.thread_blocks.proofs.Blocks.{no_data}
use Rattle.thread_blocks.proofs.OwnBlocks.{keeps_blocks}
use Rattle.thread_space.specs.Kept.{Kept, blocks_of, shared_of}
use Rattle.thread_space.proofs.Owners.{owned_again}
use Rattle.job_turns.specs.Alone.{StandsAlone, TakesOwnTurn, has_data}
use Rattle.job_turns.specs.Asking.{ask_next}
use Rattle.job_turns.specs.Standing.{IsGoing, IsMid, PhaseIs, Run, StandsAfter, StandsFor, TakesTurn, Waiting, ask_now}
use Rattle.job_turns.specs.Standing.{ask_of, waits_at}
use Rattle.job_turns.proofs.Dataless.{none_shared, shares_none}
use Rattle.job_turns.proofs.TurnsTaken.{owned_put}
use Rattle.job_turns.proofs.WholeTurns.{going_within}

abbrev Ours : Type 0
Ours = Thread Runs Line Event

-- no data in a thread's hands
abbrev in_hands : Runs → Runs
in_hands h = with_owned h (owned_by h ++ [])

-- ** that it changes nothing of a turn

module _ (l : Loads ℕ) (thread fuel : ℕ) where
  same_look : (seen : List Event) (h : Runs) → looked l thread seen (in_hands h) ≡ looked l thread seen h
  same_look seen h =
      ap (λ xs. record {
        after = left h.after.state
            (record { seen = seen; stack = h.after.memory.stack; own = ranges_in (looked_at l thread seen xs) });
        owners = owners_of (looked_at l thread seen xs);
        asked = h.asked;
      }) (owned_put h (owned_by h ++ []) ∙ append-nil (owned_by h))

  same_begin : (line : Line) (seen : List Event) (h : Runs)
      → begin_line plain_operations l (shows l thread) thread line seen (in_hands h)
      ≡ begin_line plain_operations l (shows l thread) thread line seen h
  unfolding begin_line
  same_begin line seen h =
      ap (λ g. begun_by plain_operations l (shows l thread) thread line seen g line.told.action) (same_look seen h)

-- a thread that waits has its ranges with their owners
same_waiting : (seen : List Event) (state : State ℕ Bool) (asked : Asked) (k : Kept)
    → in_hands (waits_at seen state asked k) ≡ waits_at seen state asked k
same_waiting seen state asked k =
    ap (λ xs. record {
      after = left state (record { seen = seen; stack = k.stack; own = ranges_in xs });
      owners = owners_of xs;
      asked = Some asked;
    }) (append-nil (owned_by (waits_at seen state asked k)) ∙ owned_again (blocks_of k.vector))

same_mid : (k : Kept) (fuel : ℕ) (c : Waiting) (steps : ℕ) (points : List ℕ) (h : Runs) → IsMid k fuel c steps points h
    → in_hands h ≡ h
same_mid k fuel c steps points h mid =
    ap in_hands mid.holds ∙ same_waiting h.after.memory.seen c.machine.state c.asked k ∙ sym mid.holds

-- a thread that has something left to do
abbrev Moves : List Line → Phase Runs → Type 0
Moves [] (Idle h) = ⊥
Moves (line ∷ todo) (Idle h) = Unit {0}
Moves todo (Mid steps points h) = in_hands h ≡ h

-- ** what it leaves holds blocks

module _ (l : Loads ℕ) (none : HasNoData l) (thread fuel : ℕ) where
  abbrev x : Turns Runs Line Event
  x = thread_turns l thread fuel

  keeps : KeepsBlocks x
  keeps = keeps_blocks l none thread fuel

  record IsSameTurn (todo : List Line) (phase : Phase Runs) (said : List Said) (old seen : List Event) : Type 0 where
    pub same : turn_at x todo (changed in_hands phase) said old seen ≡ turn_at x todo phase said old seen
    pub holds : Holds (turn_at x todo phase said old seen)

  same_turn : (todo : List Line) (phase : Phase Runs) (said : List Said) (old seen : List Event) → Moves todo phase
      → IsSameTurn todo phase said old seen
  unfolding thread_turns
  same_turn [] (Idle h) said old seen moves = absurd moves
  same_turn (line ∷ todo) (Idle h) said old seen moves = record {
    same = ap (after_look x x.fuel todo said seen (length seen ∷ [])) (same_begin l thread fuel line seen h);
    holds = look_keeps x keeps x.fuel todo said seen (length seen ∷ []) (x.begin line seen h) (keeps.begin line seen h);
  }
  same_turn [] (Mid steps points h) said old seen moves = record {
    same = ap (λ g. after_look x (steps - 1) [] said seen (with_last points (length seen))
        (resume_line l thread seen g)) moves;
    holds = look_keeps x keeps (steps - 1) [] said seen (with_last points (length seen)) (x.resume seen h)
        (keeps.resume seen h);
  }
  same_turn (line ∷ todo) (Mid steps points h) said old seen moves = record {
    same = ap (λ g. after_look x (steps - 1) (line ∷ todo) said seen (with_last points (length seen))
        (resume_line l thread seen g)) moves;
    holds = look_keeps x keeps (steps - 1) (line ∷ todo) said seen (with_last points (length seen)) (x.resume seen h)
        (keeps.resume seen h);
  }

-- ** runners

no_lines : (line : Line) (todo : List Line) → [] ≡ line ∷ todo → ⊥
no_lines line todo e = cc

-- a runner that goes has a line, or waits
goes_on : (begun : ℕ) (lines : List ThreadLine) (line : Option ThreadLine) → slice_get lines begun ≡ line
    → IsGoing (ask_next (begun + 1) line) → [] ≡ numbered_lines (begun + 1) (drop begun lines) → ⊥
goes_on begun lines None is going done = going
goes_on begun lines (Some line) is going done =
    let within = going_within (begun + 1) begun lines (subst (λ o. IsGoing (ask_next (begun + 1) o)) (sym is) going) in
    no_lines _ _ (done ∙ ap (numbered_lines (begun + 1)) (drop_more lines begun line within))

moves_of : (r : Run) (call : Option Waiting) (todo : List Line) (phase : Phase Runs)
    → todo ≡ numbered_lines (r.begun + 1) (drop r.begun r.lines) → PhaseIs r.kept r.fuel call phase
    → IsGoing (ask_now r.begun r.lines call) → Moves todo phase
moves_of r None [] (Idle h) left is going = absurd (goes_on r.begun r.lines (slice_get r.lines r.begun) refl going left)
moves_of r None (line ∷ todo) (Idle h) left is going = tt
moves_of r None todo (Mid steps points h) left is going = absurd is
moves_of r (Some c) todo (Idle h) left is going = absurd is
moves_of r (Some c) [] (Mid steps points h) left is going = same_mid r.kept r.fuel c steps points h is
moves_of r (Some c) (line ∷ todo) (Mid steps points h) left is going = same_mid r.kept r.fuel c steps points h is

module _ (old new : Run) (events : List Event) (d d' : List Piece) (none : has_data old.kept.vector.images ≡ false)
    (going : IsGoing (ask_of old)) where
  abbrev turns_of : Turns Runs Line Event
  turns_of = thread_turns (job_loads old.kept.vector.images) old.kept.vector.thread old.fuel

  abbrev shared_then : List (Owned ℕ)
  shared_then = shared_of old.kept.vector.images (after old.kept.vector.past events) d

  module _ (t : Ours) (seen now : List Event) (stands : StandsFor old t) where
    is_same : IsSameTurn (job_loads old.kept.vector.images)
        (shares_none old.kept.vector.images none) old.kept.vector.thread
        old.fuel t.todo t.phase t.said t.seen seen
    is_same = same_turn (job_loads old.kept.vector.images)
        (shares_none old.kept.vector.images none) old.kept.vector.thread
        old.fuel t.todo t.phase t.said t.seen seen (moves_of old old.call t.todo t.phase stands.todo stands.phase going)

    is_alone : turn turns_of (with_data shared_then t) seen ≡ turn turns_of t seen
    is_alone =
        ap (λ xs. turn turns_of (with_data xs t) seen)
        (none_shared old.kept.vector.images none (after old.kept.vector.past events) d)
        ∙ is_same.same

    alone : StandsAfter new d' now (turn turns_of (with_data shared_then t) seen)
        → StandsAlone new now (turn turns_of t seen)
    alone shared =
        let own = subst (λ (u : Ours). StandsAfter new d' now u) is_alone shared in
        record {
          stands = subst (λ (u : Ours). StandsFor new u) (without_none (turn turns_of t seen) is_same.holds) own.stands;
          has_seen = own.has_seen;
        }

    among : new.kept.vector.images ≡ old.kept.vector.images → StandsAlone new now (turn turns_of t seen)
        → StandsAfter new d' now (turn turns_of (with_data shared_then t) seen)
    among images own =
        let u = turn turns_of t seen in
        let held = held_in u.phase in
        subst (λ (u : Ours). StandsAfter new d' now u) (sym is_alone) (record {
          stands = subst (λ (u : Ours). StandsFor new u) (sym (without_none u is_same.holds)) own.stands;
          shared = no_data held.owners held.after.memory.own is_same.holds
              ∙ sym (none_shared new.kept.vector.images (ap has_data images ∙ none) new.kept.vector.past d');
          has_seen = own.has_seen;
        })

  -- the turn with the shared data in its hands, of which there are none, is its own
  pub own_turn : TakesTurn old events d new d' → TakesOwnTurn old events new
  own_turn takes = record {
    same = takes.same;
    turns = λ t seen stands history. alone t seen _ stands (takes.turns t seen stands history);
  }

  -- and the other way round, whatever data are said to be shared
  pub shared_turn : TakesOwnTurn old events new → TakesTurn old events d new d'
  shared_turn takes = record {
    same = takes.same;
    turns = λ t seen stands history. among t seen _ stands takes.same.images (takes.turns t seen stands history);
  }

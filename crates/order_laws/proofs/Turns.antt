-- Threads of one kind follow threads of another, turn by turn, along a history.
use Rattle.std.proofs.Common.{◌≡◌, ℕ, ◌+◌, ◌-◌, ◌*◌, ◌≤◌, List, [], ◌∷◌, Option, length, refl, ap, subst, inl, inr}
use Rattle.std.proofs.Common.{arith}
use Rattle.std.specs.Prelude.{option_and_then}
use Rattle.guest_operands.specs.declared.stop.Stop.{Stop}
use Rattle.guest_machine.specs.Run.{Outcome, Ended, Waits, run}
use Rattle.guest_machine.specs.Simulate.{SameOut}
use Rattle.guest_machine.proofs.Simulate.{same_run}
use Rattle.thread_blocks.specs.Turns.{Ending, Stopped, Said, Begun, Says, Calls, Turns, Phase, Idle, Mid, Thread}
use Rattle.thread_blocks.specs.Turns.{with_last, over_with, after_run, after_look, turn_at, turn, turns, next_line}
use Rattle.thread_blocks.specs.Turns.{event_of, with_event}
use Rattle.thread_blocks.specs.TurnsAlike.{IsUncleanEnding, HasUnclean, SameBegun, SamePhase, SameThread}
use Rattle.thread_blocks.proofs.Turns.{turn-sticky}
use Rattle.order_laws.specs.Alike.{AreAlike, AtHistory}

-- a line that is unclean, said last
unclean-last : (said : List Said) (line : Said) → IsUncleanEnding line.ending → HasUnclean (with_last said line)
unclean-last [] line h = inl h
unclean-last (first ∷ said) line h = inr (unclean-last said line h)

module _ {S S' L E : Type 0} (Rel0 Wait0 Rest0 : S → S' → Type 0) (Fine : List E → Type 0) (x : Turns S L E)
    (y : Turns S' L E)
    (event : L → List E → Option E) (alike : AreAlike Rel0 Wait0 Rest0 Fine x y event) where
  abbrev Rel : List E → S → S' → Type 0
  Rel seen = Rel0

  abbrev Wait : List E → S → S' → Type 0
  Wait seen = Wait0

  abbrev Rest : List E → S → S' → Type 0
  Rest seen = Rest0

  -- what runs leave
  run_alike : (todo : List L) (said : List Said) (seen : List E) (points : List ℕ) (out : Outcome S) (out' : Outcome S')
      → SameOut (Wait seen) (Rest seen) out out'
      → SameThread Wait Rest (after_run todo said seen points out) (after_run todo said seen points out')
  run_alike todo said seen points (Ended stop left s) (Ended stop' left' s') (inl h) = inl (unclean-last said _ h)
  run_alike todo said seen points (Ended stop left s) (Ended stop' left' s') (inr h) =
      inr (record {
        todo = refl;
        said =
            ap (λ (end : Stop). with_last said (record { points = points; ending = Stopped end })) h.0;
        seen = refl;
        phase =
            h.1;
      })
  run_alike todo said seen points (Ended stop left s) (Waits left' s') h = inl (unclean-last said _ h)
  run_alike todo said seen points (Waits left s) (Ended stop' left' s') h = absurd h
  run_alike todo said seen points (Waits left s) (Waits left' s') h =
      inr (record { todo = refl; said = refl; seen = refl; phase = (h.0, (h.1.0, (refl, h.1.1))) })

  -- what looks leave, with steps to go
  look_alike : (steps steps' : ℕ) → 4 * steps ≤ steps'
      → (todo : List L) (said : List Said) (seen : List E) (points : List ℕ) (b : Begun S) (b' : Begun S')
      → SameBegun Rel Rest seen b b'
      → SameThread Wait Rest (after_look x steps todo said seen points b) (after_look y steps' todo said seen points b')
  look_alike steps steps' enough todo said seen points (Says ending s) (Says ending' s') (inl h) =
      inl (unclean-last said _ h)
  look_alike steps steps' enough todo said seen points (Says ending s) (Says ending' s') (inr h) =
      inr (record {
        todo = refl;
        said =
            ap (λ (end : Ending). with_last said (record { points = points; ending = end })) h.0;
        seen = refl;
        phase = h.1;
      })
  look_alike steps steps' enough todo said seen points (Says ending s) (Calls s') h =
      run-unclean (run y.steps steps' s')
    where
      run-unclean : (out : Outcome S')
          → SameThread Wait Rest (over_with todo said seen points ending s) (after_run todo said seen points out)
      run-unclean out = inl (unclean-last said _ h)
  look_alike steps steps' enough todo said seen points (Calls s) (Says ending' s') h = absurd h
  look_alike steps steps' enough todo said seen points (Calls s) (Calls s') h =
      run_alike todo said seen points (run x.steps steps s) (run y.steps steps' s')
      (same_run x.steps y.steps Rel0 Wait0 Rest0 alike.steps steps steps' s s' enough h)

  -- a look in the middle of a line takes one of the steps that are left
  middle_alike : (todo : List L) (left left' : ℕ) (points points' : List ℕ) (s : S) (s' : S') (said : List Said)
      (old seen : List E) → Fine seen
      → 1 ≤ left → 4 * left ≤ left' + 3 → points' ≡ points → Wait old s s'
      → SameThread Wait Rest (after_look x (left - 1) todo said seen (with_last points (length seen)) (x.resume seen s))
      (after_look y (left' - 1) todo said seen (with_last points' (length seen)) (y.resume seen s'))
  middle_alike todo left left' points points' s s' said old seen fine some enough e wait =
      rw e (look_alike (left - 1) (left' - 1) (omega arith) todo said seen _ _ _ (alike.resume seen fine s s' wait))

  -- a turn, by where the threads stand
  turn_at_alike : (todo : List L) (phase : Phase S) (phase' : Phase S') (said : List Said) (old seen : List E)
      → Fine seen
      → Fine (with_event seen (option_and_then (λ line. event line seen) (next_line todo phase')))
      → SamePhase Wait Rest old phase phase'
      → SameThread Wait Rest (turn_at x todo phase said old seen) (turn_at y todo phase' said old seen)
  turn_at_alike [] (Idle s) (Idle s') said old seen fine own same =
      inr (record { todo = refl; said = refl; seen = refl; phase = same })
  turn_at_alike (line ∷ todo) (Idle s) (Idle s') said old seen fine own same =
      look_alike x.fuel y.fuel alike.fuel todo said seen _ _ _ (alike.begin seen line fine own s s' same)
  turn_at_alike todo (Idle s) (Mid left' points' s') said old seen fine own same = absurd same
  turn_at_alike todo (Mid left points s) (Idle s') said old seen fine own same = absurd same
  turn_at_alike [] (Mid left points s) (Mid left' points' s') said old seen fine own same =
      middle_alike [] left left' points points' s s' said old seen fine same.0 same.1.0 same.1.1.0 same.1.1.1
  turn_at_alike (line ∷ todo) (Mid left points s) (Mid left' points' s') said old seen fine own same =
      middle_alike (line ∷ todo) left left' points points' s s' said old seen fine same.0 same.1.0 same.1.1.0 same.1.1.1

  turn_by_parts : (todo todo' : List L) (phase : Phase S) (phase' : Phase S') (said said' : List Said)
      (old old' seen : List E) → todo' ≡ todo → said' ≡ said → old' ≡ old
      → Fine seen → Fine (with_event seen (option_and_then (λ line. event line seen) (next_line todo' phase')))
      → SamePhase Wait Rest old phase phase'
      → SameThread Wait Rest (turn_at x todo phase said old seen) (turn_at y todo' phase' said' old' seen)
  turn_by_parts todo todo' phase phase' said said' old old' seen e f g fine own same =
      let mine = subst (λ (ls : List L). Fine
      (with_event seen (option_and_then (λ line. event line seen) (next_line ls phase')))) e own in
      rw (e, f, g) (turn_at_alike todo phase phase' said old seen fine mine same)

  -- the law of one turn
  pub turn_alike : (t : Thread S L E) (t' : Thread S' L E) (seen : List E) → Fine seen
      → Fine (with_event seen (event_of event t' seen)) → SameThread Wait Rest t t'
      → SameThread Wait Rest (turn x t seen) (turn y t' seen)
  turn_alike t t' seen fine own (inl h) = inl (turn-sticky x t seen h)
  turn_alike t t' seen fine own (inr h) =
      turn_by_parts t.todo t'.todo t.phase t'.phase t.said t'.said t.seen t'.seen seen h.todo h.said h.seen fine own h.phase

  -- the law of turns along a history, which the second threads' own events are in
  pub turns_alike : (all : List (List E)) (t : Thread S L E) (t' : Thread S' L E) → AtHistory y event Fine t' all
      → SameThread Wait Rest t t'
      → SameThread Wait Rest (turns x t all) (turns y t' all)
  turns_alike [] t t' at same = same
  turns_alike (seen ∷ all) t t' at same =
      turns_alike all (turn x t seen) (turn y t' seen) at.1 (turn_alike t t' seen at.0.0 at.0.1 same)

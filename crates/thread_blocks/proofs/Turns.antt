-- What turns leave: an unclean line stays, a thread with nothing left is left as it is, and any other has seen what its turn
-- saw.
use Rattle.std.proofs.Common.{◌≡◌, ◌⊎◌, ℕ, ◌-◌, List, [], ◌∷◌, refl, ap, ◌∙◌, inl, inr}
use Rattle.guest_machine.specs.Run.{Outcome, Ended, Waits, run}
use Rattle.thread_blocks.specs.Turns.{Said, Begun, Says, Calls, Turns, Phase, Idle, Mid, Thread, with_last, after_run}
use Rattle.thread_blocks.specs.Turns.{after_look, turn_at, turn, turns, IsFinished}
use Rattle.thread_blocks.specs.TurnsAlike.{HasUnclean}

-- ** an unclean line stays

unclean-kept : (said : List Said) (line : Said) → HasUnclean said → HasUnclean (with_last said line)
unclean-kept [] line h = absurd h
unclean-kept (first ∷ said) line (inl h) = inl h
unclean-kept (first ∷ said) line (inr h) = inr (unclean-kept said line h)

run-sticky : {S L E : Type 0} (todo : List L) (said : List Said) (seen : List E) (points : List ℕ) (out : Outcome S)
    → HasUnclean said → HasUnclean (after_run todo said seen points out).said
run-sticky todo said seen points (Ended stop left s) h = unclean-kept said _ h
run-sticky todo said seen points (Waits left s) h = h

module _ {S L E : Type 0} (x : Turns S L E) where
  look-sticky : (steps : ℕ) (todo : List L) (said : List Said) (seen : List E) (points : List ℕ) (b : Begun S)
      → HasUnclean said → HasUnclean (after_look x steps todo said seen points b).said
  look-sticky steps todo said seen points (Says ending s) h = unclean-kept said _ h
  look-sticky steps todo said seen points (Calls s) h = run-sticky todo said seen points (run x.steps steps s) h

  turn_at-sticky : (todo : List L) (phase : Phase S) (said : List Said) (old seen : List E) → HasUnclean said
      → HasUnclean (turn_at x todo phase said old seen).said
  turn_at-sticky [] (Idle s) said old seen h = h
  turn_at-sticky (line ∷ todo) (Idle s) said old seen h = look-sticky x.fuel todo said seen _ (x.begin line seen s) h
  turn_at-sticky [] (Mid left points s) said old seen h = look-sticky (left - 1) [] said seen _ (x.resume seen s) h
  turn_at-sticky (line ∷ todo) (Mid left points s) said old seen h =
      look-sticky (left - 1) (line ∷ todo) said seen _ (x.resume seen s) h

  pub turn-sticky : (t : Thread S L E) (seen : List E) → HasUnclean t.said → HasUnclean (turn x t seen).said
  turn-sticky t seen h = turn_at-sticky t.todo t.phase t.said t.seen seen h

  -- ** a thread with nothing left is left as it is; any other has seen what its turn saw

  turn_at-finished : (todo : List L) (phase : Phase S) (said : List Said) (old seen : List E) → IsFinished todo phase
      → turn_at x todo phase said old seen ≡ record { todo = todo; phase = phase; said = said; seen = old }
  turn_at-finished [] (Idle s) said old seen h = refl
  turn_at-finished (line ∷ todo) (Idle s) said old seen h = absurd h
  turn_at-finished [] (Mid left points s) said old seen h = absurd h
  turn_at-finished (line ∷ todo) (Mid left points s) said old seen h = absurd h

  pub turn-finished : (t : Thread S L E) (seen : List E) → IsFinished t.todo t.phase → turn x t seen ≡ t
  turn-finished t seen h = turn_at-finished t.todo t.phase t.said t.seen seen h

  pub turns-finished : (t : Thread S L E) (all : List (List E)) → IsFinished t.todo t.phase → turns x t all ≡ t
  turns-finished t [] h = refl
  turns-finished t (seen ∷ all) h = ap (λ u. turns x u all) (turn-finished t seen h) ∙ turns-finished t all h

  run-seen : (todo : List L) (said : List Said) (seen : List E) (points : List ℕ) (out : Outcome S)
      → (after_run todo said seen points out).seen ≡ seen
  run-seen todo said seen points (Ended stop left s) = refl
  run-seen todo said seen points (Waits left s) = refl

  look-seen : (steps : ℕ) (todo : List L) (said : List Said) (seen : List E) (points : List ℕ) (b : Begun S)
      → (after_look x steps todo said seen points b).seen ≡ seen
  look-seen steps todo said seen points (Says ending s) = refl
  look-seen steps todo said seen points (Calls s) = run-seen todo said seen points (run x.steps steps s)

  turn_at-seen : (todo : List L) (phase : Phase S) (said : List Said) (old seen : List E)
      → IsFinished todo phase ⊎ ((turn_at x todo phase said old seen).seen ≡ seen)
  turn_at-seen [] (Idle s) said old seen = inl tt
  turn_at-seen (line ∷ todo) (Idle s) said old seen = inr (look-seen x.fuel todo said seen _ (x.begin line seen s))
  turn_at-seen [] (Mid left points s) said old seen = inr (look-seen (left - 1) [] said seen _ (x.resume seen s))
  turn_at-seen (line ∷ todo) (Mid left points s) said old seen =
      inr (look-seen (left - 1) (line ∷ todo) said seen _ (x.resume seen s))

  pub turn-seen : (t : Thread S L E) (seen : List E) → IsFinished t.todo t.phase ⊎ ((turn x t seen).seen ≡ seen)
  turn-seen t seen = turn_at-seen t.todo t.phase t.said t.seen seen

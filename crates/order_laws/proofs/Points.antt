-- The numbers of events that lines tell are those that their looks saw.
use Rattle.std.proofs.Common.{◌≡◌, ◌∙◌, ◌++◌, ℕ, ◌-◌, List, [], ◌∷◌, length, refl, sym, ap, append_assoc}
use Rattle.std.specs.Prelude.{map, take}
use Rattle.std.proofs.lemmas.List.{append-nil, flat_map_more}
use Rattle.std.proofs.Math.Seq.{take-append_seam}
use Rattle.guest_machine.specs.Run.{Outcome, Ended, Waits, run}
use Rattle.thread_blocks.specs.Turns.{Begun, Calls, Ending, Idle, IsFinished, Mid, Phase, Said, Says, Stopped, Thread}
use Rattle.thread_blocks.specs.Turns.{Turns, after_look, after_run, over_with, turn, turn_at, turns, with_last}
use Rattle.order_laws.specs.Points.{AreTaken, FrontsAreTold, PointsKeep, points_in, points_of}

module _ {S L E : Type 0} (x : Turns S L E) where
  -- a line that is over tells its points
  told_over : (todo : List L) (said : List Said) (seen : List E) (points : List ℕ) (ending : Ending) (s : S)
      → points_in (over_with todo said seen points ending s) ≡ points_of said ++ points
  told_over todo said seen points ending s =
      let line : Said = record { points = points; ending = ending } in
      append-nil (points_of (with_last said line)) ∙ sym (flat_map_more (λ (l : Said). l.points) [] said line)

  -- so does one that waits in its middle
  told_run : (todo : List L) (said : List Said) (seen : List E) (points : List ℕ) (out : Outcome S)
      → points_in (after_run todo said seen points out) ≡ points_of said ++ points
  told_run todo said seen points (Ended stop left s) = told_over todo said seen points (Stopped stop) s
  told_run todo said seen points (Waits left s) = refl

  told_look : (steps : ℕ) (todo : List L) (said : List Said) (seen : List E) (points : List ℕ) (b : Begun S)
      → points_in (after_look x steps todo said seen points b) ≡ points_of said ++ points
  told_look steps todo said seen points (Says ending s) = told_over todo said seen points ending s
  told_look steps todo said seen points (Calls s) = told_run todo said seen points (run x.steps steps s)

  -- a turn tells one point more
  told_turn : (todo : List L) (phase : Phase S) (said : List Said) (old seen : List E)
      → (IsFinished todo phase → ⊥)
      → points_in (turn_at x todo phase said old seen)
      ≡ points_in (record { todo = todo; phase = phase; said = said; seen = old }) ++ length seen ∷ []
  told_turn [] (Idle s) said old seen more = absurd (more tt)
  told_turn (line ∷ todo) (Idle s) said old seen more =
      told_look x.fuel todo said seen (length seen ∷ []) (x.begin line seen s)
      ∙ ap (λ (ps : List ℕ). ps ++ length seen ∷ []) (sym (append-nil (points_of said)))
  told_turn [] (Mid left points s) said old seen more =
      told_look (left - 1) [] said seen (with_last points (length seen)) (x.resume seen s)
      ∙ sym (append_assoc (points_of said) points (length seen ∷ []))
  told_turn (line ∷ todo) (Mid left points s) said old seen more =
      told_look (left - 1) (line ∷ todo) said seen (with_last points (length seen)) (x.resume seen s)
      ∙ sym (append_assoc (points_of said) points (length seen ∷ []))

  told_turns : (all : List (List E)) (t : Thread S L E) → AreTaken x t all
      → points_in (turns x t all) ≡ points_in t ++ map length all
  told_turns [] t taken = sym (append-nil (points_in t))
  told_turns (seen ∷ all) t taken =
      told_turns all (turn x t seen) taken.1
      ∙ (ap (λ (ps : List ℕ). ps ++ map length all) (told_turn t.todo t.phase t.said t.seen seen taken.0)
      ∙ append_assoc (points_in t) (length seen ∷ []) (map length all))

pub points_keep : (S L E : Type 0) → PointsKeep S L E
points_keep S L E x all t taken = told_turns x all t taken

pub fronts_told : (E : Type 0) → FrontsAreTold E
fronts_told E [] history fronts = refl
fronts_told E (front ∷ all) history fronts =
    let here : take (length front) history ≡ front =
    ap (take (length front)) fronts.0.1 ∙ take-append_seam front fronts.0.0 in
    ap (λ (f : List E). f ∷ map (λ (point : ℕ). take point history) (map length all)) here
    ∙ ap (λ (rest : List (List E)). front ∷ rest) (fronts_told E all history fronts.1)

-- How a line's turns count its steps, and its looks.
use Rattle.std.proofs.Common.{◌≡◌, ◌-◌, ◌++◌, ℕ, List, [], ◌∷◌, length, map, refl, sym, ap, subst, ◌∙◌, append_assoc}
use Rattle.std.proofs.Common.{append-nil}
use Rattle.guest_operands.specs.declared.stop.Stop.{Stop}
use Rattle.guest_machine.specs.Run.{Ended, Outcome, Waits, run}
use Rattle.thread_blocks.specs.Turns.{Begun, Calls, Ending, Mid, Said, Says, Stopped, Thread, Turns, after_look}
use Rattle.thread_blocks.specs.Turns.{after_run, turn, turn_at, turns, with_last}
use Rattle.line_laws.specs.Counted.{IsSaid, PointsAreLooks, PointsAreTold, before}

no_longer : {X : Type 0} (xs : List X) (x : X) → xs ++ x ∷ [] ≡ xs → ⊥
no_longer [] x e = cc
no_longer (y ∷ xs) x e = let rest : xs ++ x ∷ [] ≡ xs = cc in no_longer xs x rest

same_last : {X : Type 0} (xs : List X) (x y : X) → xs ++ x ∷ [] ≡ xs ++ y ∷ [] → x ≡ y
same_last [] x y e = cc
same_last (z ∷ xs) x y e = let rest : xs ++ x ∷ [] ≡ xs ++ y ∷ [] = cc in same_last xs x y rest

module _ {S L E : Type 0} (x : Turns S L E) where
  -- ** after a look

  -- with these looks still to come the line is over, and not before
  pub record Still (t : Thread S L E) (said : List Said) (looks : List (List E)) (line : Said) : Type 0 where
    pub waits : (front rest : List (List E)) (next : List E) → looks ≡ front ++ next ∷ rest
        → (turns x t front).said ≡ said
    pub says : (turns x t looks).said ≡ with_last said line

  one_more : {t : Thread S L E} {said : List Said} (seen : List E) (more : List (List E)) {line : Said}
      → Still t said (seen ∷ more) line → Still (turn x t seen) said more line
  one_more seen more still = record {
    waits = λ front rest next e. still.waits (seen ∷ front) rest next (ap (λ (looks : List (List E)). seen ∷ looks) e);
    says = still.says;
  }

  pub turn_mid : (todo : List L) (left : ℕ) (points : List ℕ) (s : S) (said : List Said) (old seen : List E)
      → turn_at x todo (Mid left points s) said old seen
      ≡ after_look x (left - 1) todo said seen (with_last points (length seen)) (x.resume seen s)
  turn_mid [] left points s said old seen = refl
  turn_mid (line ∷ todo) left points s said old seen = refl

  -- no look is left: the line is over
  pub data IsOver (n : ℕ) (points : List ℕ) (begun : Begun S) (line : Said) : Type 0 where
    AtLook : (ending : Ending) (s : S) → begun ≡ Says ending s → line ≡ record { points = points; ending = ending }
        → IsOver n points begun line
    AtStep : (s : S) (stop : Stop) (left : ℕ) (t : S) → begun ≡ Calls s → run x.steps n s ≡ Ended stop left t
        → line ≡ record { points = points; ending = Stopped stop } → IsOver n points begun line

  -- a look is left: the thread waits for it
  pub record IsOn (n : ℕ) (todo : List L) (said : List Said) (points : List ℕ) (begun : Begun S) (next : List E)
      (more : List (List E)) (line : Said) : Type 0 where
    pub start : S
    pub calls : begun ≡ Calls start
    pub left : ℕ
    pub at : S
    pub waits : run x.steps n start ≡ Waits left at
    pub still : Still (after_look x (left - 1) todo said next (with_last points (length next))
        (x.resume next at)) said more line

  ran_over : (n : ℕ) (todo : List L) (said : List Said) (seen : List E) (points : List ℕ) (s : S) (line : Said)
      (out : Outcome S) → run x.steps n s ≡ out → Still (after_run todo said seen points out) said [] line
      → IsOver n points (Calls s) line
  ran_over n todo said seen points s line (Ended stop left t) e still =
      AtStep s stop left t refl e (sym (same_last said _ line still.says))
  ran_over n todo said seen points s line (Waits left t) e still = absurd (no_longer said line (sym still.says))

  pub is_over : (n : ℕ) (todo : List L) (said : List Said) (seen : List E) (points : List ℕ) (begun : Begun S)
      (line : Said)
      → Still (after_look x n todo said seen points begun) said [] line → IsOver n points begun line
  is_over n todo said seen points (Says ending s) line still =
      AtLook ending s refl (sym (same_last said _ line still.says))
  is_over n todo said seen points (Calls s) line still =
      ran_over n todo said seen points s line (run x.steps n s) refl still

  ran_on : (n : ℕ) (todo : List L) (said : List Said) (seen : List E) (points : List ℕ) (s : S) (next : List E)
      (more : List (List E)) (line : Said) (out : Outcome S) → run x.steps n s ≡ out
      → Still (after_run todo said seen points out) said (next ∷ more) line
      → IsOn n todo said points (Calls s) next more line
  ran_on n todo said seen points s next more line (Ended stop left t) e still =
      absurd (no_longer said _ (still.waits [] more next refl))
  ran_on n todo said seen points s next more line (Waits left t) e still = record {
    start = s;
    calls = refl;
    left = left;
    at = t;
    waits = e;
    still = subst (λ (u : Thread S L E). Still u said more line) (turn_mid todo left points t said seen next)
        (one_more next more still);
  }

  pub is_on : (n : ℕ) (todo : List L) (said : List Said) (seen : List E) (points : List ℕ) (begun : Begun S)
      (next : List E)
      (more : List (List E)) (line : Said) → Still (after_look x n todo said seen points begun) said (next ∷ more) line
      → IsOn n todo said points begun next more line
  is_on n todo said seen points (Says ending s) next more line still =
      absurd (no_longer said _ (still.waits [] more next refl))
  is_on n todo said seen points (Calls s) next more line still =
      ran_on n todo said seen points s next more line (run x.steps n s) refl still

  -- ** points

  over_points : (n : ℕ) (points : List ℕ) (begun : Begun S) (line : Said) → IsOver n points begun line
      → line.points ≡ points
  over_points n points begun line (AtLook ending s b is) = ap (λ (l : Said). l.points) is
  over_points n points begun line (AtStep s stop left t b r is) = ap (λ (l : Said). l.points) is

  pub look_points : (more : List (List E)) (n : ℕ) (todo : List L) (said : List Said) (seen : List E) (points : List ℕ)
      (begun : Begun S) (line : Said) → Still (after_look x n todo said seen points begun) said more line
      → line.points ≡ points ++ map length more
  look_points [] n todo said seen points begun line still =
      over_points n points begun line (is_over n todo said seen points begun line still) ∙ sym (append-nil points)
  look_points (next ∷ more) n todo said seen points begun line still =
      let on = is_on n todo said seen points begun next more line still in
      look_points more (on.left - 1) todo said next (with_last points (length next)) (x.resume next on.at) line on.still
      ∙ append_assoc points (length next ∷ []) (map length more)

  pub begun_still : (line : L) (todo : List L) (held : S) (earlier : List Said) (seen first : List E)
      (more : List (List E))
      (said : Said) → IsSaid x (before x line todo held earlier seen) (first ∷ more) said
      → Still (after_look x x.fuel todo earlier first (length first ∷ []) (x.begin line first held)) earlier more said
  begun_still line todo held earlier seen first more said is =
      one_more first more (record { waits = is.waits; says = is.says })

  pub points_are : PointsAreLooks x
  points_are line todo held earlier seen first more said is =
      look_points more x.fuel todo earlier first (length first ∷ []) (x.begin line first held) said
      (begun_still line todo held earlier seen first more said is)

pub points_told : PointsAreTold
points_told l m thread fuel = (points_are _, points_are _)

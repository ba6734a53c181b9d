-- Runs follow runs.
use Rattle.std.proofs.Common.{◌≡◌, ℕ, zero, suc, ◌-◌, ◌*◌, ◌≤◌, Some, None, refl, sym, ap, ◌∙◌, inl, inr, arith}
use Rattle.guest_operands.specs.declared.stop.Stop.{Stop}
use Rattle.guest_machine.specs.Run.{Next, Goes, Ends, Looks, Outcome, Ended, Waits, Stepping, run, over_or, go_on}
use Rattle.guest_machine.specs.Simulate.{IsUnclean, Moves, Advances, OverAlike, IsSimulated, SameOut, GoesThrough}
use Rattle.guest_machine.specs.Simulate.{IsThrough, Joined}
use Rattle.guest_machine.proofs.Runs.{run-over, run-spent, run-looks, run-ends, run-goes}

-- after so many moves the rest of the run is the run
pub run-moves : {S : Type 0} (y : Stepping S) (k n : ℕ) (s t : S) → k ≤ n → Moves y k s t → run y n s ≡ run y (n - k) t
run-moves y zero n s t within moves = let all : n - 0 ≡ n = omega arith in rw all (ap (run y n) moves)
run-moves y (suc k) zero s t within moves = absurd (omega arith)
run-moves y (suc k) (suc n) s t within moves =
    let less : suc n - suc k ≡ n - k = omega arith in
    rw less (run-goes y n s moves.1.0 moves.0 moves.1.1.0 ∙ run-moves y k n moves.1.0 t (omega arith) moves.1.1.1)

module _ {S S' : Type 0} (x : Stepping S) (y : Stepping S') (Rel Wait Last : S → S' → Type 0)
    (simulated : IsSimulated x y Rel Wait Last) where
  unclean_out : (stop : Stop) (n : ℕ) (s : S) (out : Outcome S') → IsUnclean stop
      → SameOut Wait Last (Ended stop n s) out
  unclean_out stop n s (Ended stop' n' s') unclean = inl unclean
  unclean_out stop n s (Waits n' s') unclean = unclean

  -- where the first is over at once
  over_out : (n n' : ℕ) (s : S) (s' : S') (stop : Stop) → OverAlike Last s s' (Some stop) (y.over s')
      → SameOut Wait Last (Ended stop n s) (run y n' s')
  over_out n n' s s' stop (inl unclean) = unclean_out stop n s (run y n' s') unclean
  over_out n n' s s' stop (inr over) = rw (run-over y n' s' stop over.0) (inr (refl, over.1))

  module _ (n n' : ℕ) (enough : 4 * suc n ≤ n')
      (rest : (m : ℕ) (t : S) (b : S') → 4 * n ≤ m → Rel t b → SameOut Wait Last (run x n t) (run y m b)) where
    -- where the first makes a step
    step_out : (s : S) (s' : S') (next : Next S) → Advances y Rel Wait Last s next s'
        → SameOut Wait Last (go_on (suc n) s (run x n) next) (run y n' s')
    step_out s s' (Goes t) (k, (b, (within, moves, related))) =
        rw (run-moves y (suc k) n' s' b (omega arith) moves) (rest (n' - suc k) t b (omega arith) related)
    step_out s s' (Ends stop) (inl unclean) = unclean_out stop (suc n) s (run y n' s') unclean
    step_out s s' (Ends stop) (inr (k, (b, (within, moves, on, ends, last)))) =
        let some : n' - k ≡ suc (n' - k - 1) = omega arith in
        rw (run-moves y k n' s' b (omega arith) moves, some, run-ends y (n' - k - 1) b stop on ends) (inr (refl, last))
    step_out s s' (Looks t) (k, (b, (b', (within, moves, on, looks, wait)))) =
        let some : n' - k ≡ suc (n' - k - 1) = omega arith in
        rw (run-moves y k n' s' b (omega arith) moves, some, run-looks y (n' - k - 1) b b' on looks)
        (omega arith, (omega arith, wait))

  -- the law: with four times the steps the second run comes to what the first comes to
  pub same_run : (n n' : ℕ) (s : S) (s' : S') → 4 * n ≤ n' → Rel s s' → SameOut Wait Last (run x n s) (run y n' s')
  same_run zero n' s s' enough related =
      (elim (x.over s) as (λ over. x.over s ≡ over → OverAlike Last s s' over (y.over s')
      → SameOut Wait Last (over_or zero s over (Ended (x.spent s) zero s)) (run y n' s')) [
        | None ↦ λ e alike. unclean_out (x.spent s) zero s (run y n' s') (simulated.spent s)
        | Some stop ↦ λ e alike. over_out zero n' s s' stop alike
      ]) refl (simulated.over s s' related)
  same_run (suc n) n' s s' enough related =
      (elim (x.over s) as (λ over. x.over s ≡ over → OverAlike Last s s' over (y.over s')
      → SameOut Wait Last (over_or (suc n) s over (go_on (suc n) s (run x n) (x.step s))) (run y n' s')) [
        | None ↦ λ e alike. step_out n n' enough (λ m t b. same_run n m t b) s s' (x.step s)
            (simulated.step s s' related e)
        | Some stop ↦ λ e alike. over_out (suc n) n' s s' stop alike
      ]) refl (simulated.over s s' related)

module _ {S : Type 0} (g y : Stepping S) (is_through : IsThrough g y) where
  step_joined : (n : ℕ) (s : S) → y.over s ≡ None → ((t : S) → Joined y (run g n t) (run y n t)) → (next : Next S)
      → GoesThrough next (y.step s) s
      → Joined y (go_on (suc n) s (run g n) next) (run y (suc n) s)
  step_joined n s on rest (Goes t) same = rw (run-goes y n s t on same) (rest t)
  step_joined n s on rest (Ends stop) same = run-ends y n s stop on same
  step_joined n s on rest (Looks t) same = ap (run y (suc n)) (sym same)

  -- the law that joins runs across a look
  pub through : (n : ℕ) (s : S) → Joined y (run g n s) (run y n s)
  through zero s =
      (elim (g.over s) as (λ over. g.over s ≡ over
      → Joined y (over_or zero s over (Ended (g.spent s) zero s)) (run y zero s)) [
        | None ↦ λ e. run-spent y s (is_through.over s ∙ e) ∙ ap (λ stop. Ended stop zero s) (is_through.spent s)
        | Some stop ↦ λ e. run-over y zero s stop (is_through.over s ∙ e)
      ]) refl
  through (suc n) s =
      (elim (g.over s) as (λ over. g.over s ≡ over
      → Joined y (over_or (suc n) s over (go_on (suc n) s (run g n) (g.step s))) (run y (suc n) s)) [
        | None ↦ λ e. step_joined n s (is_through.over s ∙ e) (λ t. through n t) (g.step s) (is_through.step s e)
        | Some stop ↦ λ e. run-over y (suc n) s stop (is_through.over s ∙ e)
      ]) refl

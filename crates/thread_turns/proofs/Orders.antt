-- Turns in one order and then in another, and turns of a thread that is over.
use Rattle.std.proofs.Common.{◌≡◌, ◌++◌, ◌+◌, ◌-◌, ◌<◌, ◌≤◌, ℕ, zero, suc, Bool, true, false, List, [], ◌∷◌, add-one}
use Rattle.std.proofs.Common.{arith, get_or, length, take, replicate, Option, Some, None, refl, sym, ap, subst, ◌∙◌}
use Rattle.std.proofs.lemmas.List.{replicate-append-replicate, take_more}
use Rattle.std.specs.Prelude.{nat_lt, slice_get, slice_set}
use Rattle.std.proofs.lemmas.Option.{slice_get-get_or, slice_get_within}
use native.Mathlib.Nat.{mul-suc}
use Rattle.job_text.specs.Threads.{of_thread}
use Rattle.thread_blocks.specs.Turns.{at_number, enough, finishing}
use Rattle.thread_turns.specs.Orders.{HasTurned, Progress, StayFit, TakesOne, TakesOwn, TakesTurns, is_over}
use Rattle.thread_turns.specs.Orders.{is_thread_over}
use Rattle.thread_turns.proofs.Lists.{finishing_more, set-length}

-- ---- threads of definitions that the code stands for

-- W: the threads of the definitions, and what they share; `turns` takes turns of theirs in an order
module _ {S R W : Type 0} (is_done : R → Bool) (turned : S → R → S → R → Type 0) (turns : List ℕ → W → W)
    (Stands : W → Progress S R → Type 0) (none : (w : W) → turns [] w ≡ w)
    (more : (thread : ℕ) (order : List ℕ) (w : W) → turns (thread ∷ order) w ≡ turns order (turns (thread ∷ []) w))
    (over : (w : W) (x : Progress S R) (thread : ℕ) → Stands w x → is_thread_over is_done x.runs thread ≡ true
    → Stands (turns (thread ∷ []) w) x)
    (one : (w : W) (x : Progress S R) (k : ℕ) (r : R) (s : S) (r' : R) → Stands w x → slice_get x.runs k ≡ Some r
    → turned x.shared r s r' → Stands (turns (suc k ∷ []) w) (record { shared = s; runs = slice_set x.runs k r' }))
  where
    turned_stands : (w : W) (x y : Progress S R) (thread : ℕ) (r : R) → at_number x.runs thread ≡ Some r → Stands w x
        → HasTurned is_done turned thread r x y → Stands (turns (thread ∷ []) w) y
    turned_stands w x y zero r at stands has = absurd cc
    turned_stands w x y (suc k) r at stands has =
        subst (λ runs. Stands (turns (suc k ∷ []) w) (record { shared = y.shared; runs = runs })) (sym has.runs_are)
        (one w x k r y.shared has.after stands at has.turns)

    own_stands : (w : W) (x y : Progress S R) (thread : ℕ) (r : R) (done : Bool) → is_done r ≡ done
        → at_number x.runs thread ≡ Some r → Stands w x → TakesOwn is_done turned thread r done x y
        → Stands (turns (thread ∷ []) w) y
    own_stands w x y thread r true done at stands same =
        subst (Stands (turns (thread ∷ []) w)) (sym same) (over w x thread stands (ap (is_over is_done) at ∙ done))
    own_stands w x y thread r false done at stands has = turned_stands w x y thread r at stands has

    one_stands : (w : W) (x y : Progress S R) (thread : ℕ) (r : Option R) → at_number x.runs thread ≡ r → Stands w x
        → TakesOne is_done turned thread r x y → Stands (turns (thread ∷ []) w) y
    one_stands w x y thread None at stands same =
        subst (Stands (turns (thread ∷ []) w)) (sym same) (over w x thread stands (ap (is_over is_done) at))
    one_stands w x y thread (Some r) at stands takes = own_stands w x y thread r (is_done r) refl at stands takes

    -- after the same turns it stands for them again
    pub order_stands : (order : List ℕ) (w : W) (x y : Progress S R) → Stands w x → TakesTurns is_done turned x order y
        → Stands (turns order w) y
    order_stands [] w x y stands same = rw (none w) (subst (Stands w) (sym same) stands)
    order_stands (thread ∷ order) w x y stands takes =
        rw (more thread order w)
        (order_stands order (turns (thread ∷ []) w) takes.0 y
        (one_stands w x takes.0 thread (at_number x.runs thread) refl stands takes.1) takes.2)

module _ {S R : Type 0} (is_done : R → Bool) (turned : S → R → S → R → Type 0) where
  -- ---- orders

  pub takes_both : (x y z : Progress S R) (xs ys : List ℕ) → TakesTurns is_done turned x xs y
      → TakesTurns is_done turned y ys z → TakesTurns is_done turned x (xs ++ ys) z
  takes_both x y z [] ys first next = subst (λ p. TakesTurns is_done turned p ys z) first next
  takes_both x y z (thread ∷ xs) ys first next = (first.0, first.1, takes_both first.0 y z xs ys first.2 next)

  over_own : (x : Progress S R) (thread : ℕ) (r : Option R) → is_over is_done r ≡ true
      → TakesOne is_done turned thread r x x
  over_own x thread None over = refl
  over_own x thread (Some r) over = rw over refl

  pub takes_over : (x : Progress S R) (thread : ℕ) → is_thread_over is_done x.runs thread ≡ true
      → TakesTurns is_done turned x (thread ∷ []) x
  takes_over x thread over = (x, over_own x thread (at_number x.runs thread) over, refl)

  takes_rest : (x : Progress S R) (thread n : ℕ) → is_thread_over is_done x.runs thread ≡ true
      → TakesTurns is_done turned x (replicate n thread) x
  takes_rest x thread zero over = refl
  takes_rest x thread (suc n) over = (x, over_own x thread (at_number x.runs thread) over, takes_rest x thread n over)

  -- there are as many threads as before
  pub same_runs : (x y : Progress S R) (order : List ℕ) → TakesTurns is_done turned x order y
      → length y.runs ≡ length x.runs
  same_runs x y order takes = order_stands is_done turned (λ order n. n) (λ n p. length p.runs ≡ n) (λ n. refl)
      (λ thread order n. refl) (λ n p thread long over. long)
      (λ n p k r s r' long at has. set-length p.runs k r' ∙ long)
      order (length x.runs) x y refl takes

  pub still_fit : (can_turn : S → R → Type 0) (fit : S → List R → Type 0) → StayFit can_turn turned fit
      → (x y : Progress S R) (order : List ℕ) → fit x.shared x.runs → TakesTurns is_done turned x order y
      → fit y.shared y.runs
  still_fit can_turn fit laws x y order fits takes =
      order_stands is_done turned (λ order n. n) (λ (n : ℕ) (p : Progress S R). fit p.shared p.runs) (λ n. refl)
      (λ thread order n. refl) (λ n p thread fits over. fits)
      (λ n p k r s r' fits at has. laws.stays p.shared p.runs k r s r' fits at has) order 0 x y fits takes

  -- ---- as the code has them

  -- a thread that is not over is there
  going_at : (runs : List R) (k : ℕ) (r : Option R) → slice_get runs k ≡ r → is_over is_done r ≡ false → k < length runs
  going_at runs k None at going = absurd cc
  going_at runs k (Some r) at going = slice_get_within runs k r at

  pub going_there : (runs : List R) (thread k : ℕ) → k ≡ thread - 1 → is_thread_over is_done runs thread ≡ false
      → (thread ≡ suc k) × (k < length runs)
  going_there runs zero k is going = absurd cc
  going_there runs (suc i) k is going =
      let less = going_at runs i (slice_get runs i) refl going in
      (omega (arith, is), omega (arith, is, less))

  pub going_done : (runs : List R) (thread k : ℕ) (r : R) → thread ≡ suc k → slice_get runs k ≡ Some r
      → is_thread_over is_done runs thread ≡ false → is_done r ≡ false
  going_done runs thread k r number at going =
      ap (is_over is_done) (sym at) ∙ ap (is_thread_over is_done runs) (sym number) ∙ going

  -- a thread that took its turn
  pub takes_put : (x y : Progress S R) (thread k : ℕ) (r r' : R) → thread ≡ suc k → slice_get x.runs k ≡ Some r
      → is_done r ≡ false → turned x.shared r y.shared r' → y.runs ≡ slice_set x.runs k r'
      → TakesTurns is_done turned x (thread ∷ []) y
  takes_put x y thread k r r' number at going has are =
      rw (number, at, going) (y, record { after = r'; turns = has; runs_are = are }, refl)

  -- one turn more of an order
  pub takes_next : (x y z : Progress S R) (order : List ℕ) (k d : ℕ) → k < length order
      → TakesTurns is_done turned x (take k order) y → TakesTurns is_done turned y (get_or order k d ∷ []) z
      → TakesTurns is_done turned x (take (k + 1) order) z
  takes_next x y z order k d less first next =
      rw (take_more order k d less) (takes_both x y z (take k order) (get_or order k d ∷ []) first next)

  -- so many turns of a thread
  takes_more : (x y z : Progress S R) (a b n thread : ℕ) → a + b ≡ n
      → TakesTurns is_done turned x (replicate a thread) y → TakesTurns is_done turned y (replicate b thread) z
      → TakesTurns is_done turned x (replicate n thread) z
  takes_more x y z a b n thread sum first next =
      rw (← sum, ← replicate-append-replicate a b thread)
      (takes_both x y z (replicate a thread) (replicate b thread) first next)

  pub takes_one_more : (x y z : Progress S R) (a thread : ℕ) → TakesTurns is_done turned x (replicate a thread) y
      → TakesTurns is_done turned y (thread ∷ []) z → TakesTurns is_done turned x (replicate (a + 1) thread) z
  takes_one_more x y z a thread first next = takes_more x y z a 1 (a + 1) thread refl first next

  pub takes_all : (x y : Progress S R) (a n thread : ℕ) → a ≤ n → is_thread_over is_done y.runs thread ≡ true
      → TakesTurns is_done turned x (replicate a thread) y → TakesTurns is_done turned x (replicate n thread) y
  takes_all x y a n thread less over first =
      takes_more x y y a (n - a) n thread (omega (arith, less)) first (takes_rest y thread (n - a) over)

  -- the turns for one line more
  enough_more : (fuel lines : ℕ) → enough fuel lines + (fuel + 2) ≡ enough fuel (lines + 1)
  enough_more fuel lines = rw (add-one lines, mul-suc (fuel + 2) lines) omega arith

  pub takes_line : (x y z : Progress S R) (fuel lines thread : ℕ)
      → TakesTurns is_done turned x (replicate (enough fuel lines) thread) y
      → TakesTurns is_done turned y (replicate (fuel + 2) thread) z
      → TakesTurns is_done turned x (replicate (enough fuel (lines + 1)) thread) z
  takes_line x y z fuel lines thread first next =
      takes_more x y z (enough fuel lines) (fuel + 2) (enough fuel (lines + 1)) thread
      (enough_more fuel lines) first next

  -- one thread more is brought to its end
  own_at : {X : Type 0} (all : List (List X)) (thread : ℕ) → 1 ≤ thread → thread ≤ length all
      → slice_get all (thread - 1) ≡ Some (of_thread all thread)
  own_at all thread low high =
      let positive : nat_lt 0 thread ≡ true = grind (arith, low) in
      rw positive (slice_get-get_or all (thread - 1) [] (omega (arith, low, high)))

  pub takes_thread : {X : Type 0} (x y z : Progress S R) (fuel thread : ℕ) (all : List (List X)) (own : List X)
      → 1 ≤ thread → thread ≤ length all → own ≡ of_thread all thread
      → TakesTurns is_done turned x (finishing fuel 1 (take (thread - 1) all)) y
      → TakesTurns is_done turned y (replicate (enough fuel (length own)) thread) z
      → TakesTurns is_done turned x (finishing fuel 1 (take (thread + 1 - 1) all)) z
  takes_thread x y z fuel thread all own low high own_is first next =
      let index : thread + 1 - 1 ≡ suc (thread - 1) = omega (arith, low) in
      let number : 1 + (thread - 1) ≡ thread = omega (arith, low) in
      let order = finishing_more fuel 1 all (thread - 1) own (own_at all thread low high ∙ ap Some (sym own_is)) in
      rw (index, order, number)
      (takes_both x y z (finishing fuel 1 (take (thread - 1) all))
      (replicate (enough fuel (length own)) thread) first next)

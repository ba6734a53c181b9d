-- Two rows of threads and their passes, joined.
use Rattle.std.proofs.Common.{◌≡◌, ◌⊎◌, ◌+◌, ◌≤◌, ◌∙◌, ℕ, Bool, true, false, List, [], ◌∷◌, ◌++◌, length, refl, sym, ap}
use Rattle.std.proofs.Common.{subst, inl, inr, length-append, arith}
use Rattle.std.specs.Prelude.{All, MatchBool, nat_lt, if◌then◌else◌, Result, Ok, Err, IfOk}
use Rattle.job_text.specs.Jobs.{JobParts}
use Rattle.job_text.specs.declared.thread_lines.ThreadLine.{ThreadLine}
use Rattle.loaded_modules.specs.Images.{JobImages}
use Rattle.module_table.specs.declared.events.Event.{Event}
use Rattle.transcript_text.specs.declared.outcomes.Line.{Line as ShownLine}
use Rattle.transcript_text.specs.Texts.{Shown}
use Rattle.shared_modules.specs.Passes.{Agree, PassView, joined, left_pass, right_pass}
use Rattle.shared_modules.specs.Views.{Knows, longer, rising}
use Rattle.racing_thread.specs.Tallies.{Tally}
use Rattle.job_race.specs.Rows.{AllRaced, HasCounted, HasRow, IsOfJob, IsTogether, present, tallies, together}
use Rattle.job_race.proofs.Named.{rows_named}
use Rattle.job_race.proofs.Stable.{row_stays}

-- two parts of a row meet where the second part begins, unless it has no thread
abbrev Meet : ℕ → ℕ → List (List ShownLine) → Type 0
Meet next begins ys = (next ≡ begins) ⊎ (ys ≡ [])

meet : (threads first some more : ℕ) (xs ys : List (List ShownLine)) → length xs ≡ present threads first some
    → length ys ≡ present threads (first + some) more → Meet (first + length xs) (first + some) ys
meet threads first some more xs [] left right = inr refl
meet threads first some more xs (said ∷ ys) left right = inl (omega (arith, left, right))

both_long : (threads first some more count : ℕ) (xs ys : List (List ShownLine)) → some + more ≡ count
    → length xs ≡ present threads first some → length ys ≡ present threads (first + some) more
    → length (xs ++ ys) ≡ present threads first count
both_long threads first some more count xs ys whole left right =
    let long = length-append xs ys in omega (arith, long, left, right, whole)

-- ---- what is said of each thread of a row

module _ (m : JobImages) (job : JobParts) (history : List Event) where
  all_raced : (first : ℕ) (xs ys : List (List ShownLine)) → AllRaced m job history first xs
      → AllRaced m job history (first + length xs) ys → AllRaced m job history first (xs ++ ys)
  all_raced first [] ys left right =
      let here : first + 0 ≡ first = omega arith in subst (λ (n : ℕ). AllRaced m job history n ys) here right
  all_raced first (said ∷ xs) ys left right =
      let next : first + length (said ∷ xs) ≡ first + 1 + length xs = omega arith in
      (left.0, all_raced (first + 1) xs ys left.1 (subst (λ (n : ℕ). AllRaced m job history n ys) next right))

  raced_where : (next begins : ℕ) (ys : List (List ShownLine)) → Meet next begins ys → AllRaced m job history begins ys
      → AllRaced m job history next ys
  raced_where next begins ys (inl e) raced = subst (λ (n : ℕ). AllRaced m job history n ys) (sym e) raced
  raced_where next begins ys (inr none) raced =
      subst (λ (zs : List (List ShownLine)). AllRaced m job history next zs) (sym none) tt

-- ---- what was counted

record IsSum (a b c : Tally) : Type 0 where
  pub loads : c.loads ≡ a.loads + b.loads
  pub turns : c.turns ≡ a.turns + b.turns

tallies_both : (lines : List (List ThreadLine)) (first : ℕ) (xs ys : List (List ShownLine))
    → IsSum (tallies lines first xs) (tallies lines (first + length xs) ys) (tallies lines first (xs ++ ys))
tallies_both lines first [] ys =
    let here : first ≡ first + 0 = omega arith in
    let same = ap (λ (n : ℕ). tallies lines n ys) here in record {
      loads = let e = ap (λ (t : Tally). t.loads) same in omega (arith, e);
      turns = let e = ap (λ (t : Tally). t.turns) same in omega (arith, e);
    }
tallies_both lines first (said ∷ xs) ys =
    let next : first + 1 + length xs ≡ first + length (said ∷ xs) = omega arith in
    let same = ap (λ (n : ℕ). tallies lines n ys) next in
    let sums = tallies_both lines (first + 1) xs ys in record {
      loads = let e = ap (λ (t : Tally). t.loads) same in omega (arith, e, sums.loads);
      turns = let e = ap (λ (t : Tally). t.turns) same in omega (arith, e, sums.turns);
    }

tallies_where : (lines : List (List ThreadLine)) (next begins : ℕ) (ys : List (List ShownLine)) → Meet next begins ys
    → tallies lines next ys ≡ tallies lines begins ys
tallies_where lines next begins ys (inl e) = ap (λ (n : ℕ). tallies lines n ys) e
tallies_where lines next begins ys (inr none) = ap (tallies lines next) none ∙ sym (ap (tallies lines begins) none)

counted_both : (a b c : Tally) (old p q : PassView) → IsSum a b c → HasCounted a (left_pass old) p
    → HasCounted b (right_pass old) q → HasCounted c old (joined p q)
counted_both a b c old p q sums left right = record {
  loads = omega (arith, sums.loads, left.loads, right.loads);
  turns = omega (arith, sums.turns, left.turns, right.turns);
}

-- ---- rows

module _ (m : JobImages) (job : JobParts) (first some more : ℕ) (p q : PassView) (xs ys : List (List ShownLine)) where
  in_longer : (b : Bool) → length xs ≤ some → length ys ≤ more → p.threads ≡ rising first some
      → q.threads ≡ rising (first + some) more
      → MatchBool b (Knows q.seen p.threads p.seen) (Knows p.seen q.threads q.seen)
      → AllRaced m job p.seen first xs → AllRaced m job q.seen (first + some) ys
      → AllRaced m job (if b then q.seen else p.seen) first xs
      × AllRaced m job (if b then q.seen else p.seen) (first + some) ys
  in_longer true few_xs few_ys left right knows raced others =
      (row_stays m job xs first some p.threads q.seen p.seen few_xs left knows raced, others)
  in_longer false few_xs few_ys left right knows raced others =
      (raced, row_stays m job ys (first + some) more q.threads p.seen q.seen few_ys right knows others)

module _ (m : JobImages) (job : JobParts) (first some more count : ℕ) (old p q : PassView)
    (whole : some + more ≡ count) (left_are : p.threads ≡ rising first some)
    (right_are : q.threads ≡ rising (first + some) more) (agree : Agree p q) where
  rows_joined : (left right : Shown) → HasRow m job first some (left_pass old) p left
      → HasRow m job (first + some) more (right_pass old) q right
      → HasRow m job first count old (joined p q) (together left right)
  rows_joined left right l r =
      let T = length job.lines in
      let xs = left.threads in
      let ys = right.threads in
      let meets = meet T first some more xs ys l.long r.long in
      let few_xs : length xs ≤ some = omega (arith, l.long) in
      let few_ys : length ys ≤ more = omega (arith, r.long) in
      let raced = in_longer m job first some more p q xs ys (nat_lt (length p.seen) (length q.seen)) few_xs few_ys
      left_are right_are agree l.each r.each in
      let history = longer p.seen q.seen in
      record {
        long = both_long T first some more count xs ys whole l.long r.long;
        each = all_raced m job history first xs ys raced.0
            (raced_where m job history (first + length xs) (first + some) ys meets raced.1);
        events = λ i. longer (l.events i) (r.events i);
        named = subst (λ (n : ℕ). All (IsOfJob T first n) history) whole
            (rows_named T first some more p.threads q.threads p.seen q.seen left_are right_are agree l.named r.named);
        counted = counted_both (tallies job.lines first xs) (tallies job.lines (first + some) ys)
            (tallies job.lines first (xs ++ ys)) old p q
            (subst (λ (t : Tally). IsSum (tallies job.lines first xs) t (tallies job.lines first (xs ++ ys)))
            (tallies_where job.lines (first + length xs) (first + some) ys meets) (tallies_both job.lines first xs ys))
            l.counted r.counted;
      }

  pub results_joined : {X : Type 0} (some_row more_row row : Result Shown X)
      → IfOk some_row (HasRow m job first some (left_pass old) p)
      → IfOk more_row (HasRow m job (first + some) more (right_pass old) q) → IfOk row (IsTogether some_row more_row)
      → IfOk row (HasRow m job first count old (joined p q))
  results_joined (Ok left) (Ok right) (Ok row) l r is =
      subst (HasRow m job first count old (joined p q)) (sym is) (rows_joined left right l r)
  results_joined (Ok left) (Err why) (Ok row) l r is = absurd is
  results_joined (Err why) right (Ok row) l r is = absurd is
  results_joined left right (Err why) l r is = tt

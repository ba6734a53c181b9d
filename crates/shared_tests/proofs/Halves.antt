-- The halves of a pass that speaks for threads in rising order.
use Rattle.std.proofs.Common.{◌≡◌, ℕ, ◌+◌, ◌-◌, ◌/◌, ◌≤◌, List, ◌++◌, length, ap, ◌∙◌, arith}
use Rattle.module_table.specs.declared.events.Event.{Event}
use Rattle.shared_modules.specs.Views.{rising, first_half, second_half}
use Rattle.shared_modules.specs.Passes.{SharedView, PassView, first_pass, left_pass, right_pass, joined}
use Rattle.shared_modules.specs.Threads.{rising-length, first_rising, second_rising, join_rising, all_rising}
use Rattle.shared_tests.specs.Races.{IsReady}

pub two_threads : (first count : ℕ) (shared : SharedView) (p : PassView) → IsReady first count shared p → 2 ≤ count
    → 2 ≤ length p.threads
two_threads first count shared p r two = let e = ap (length {A = ℕ}) r.threads ∙ rising-length first count in
    omega arith

pub left_ready : (first count : ℕ) (shared : SharedView) (p : PassView) → IsReady first count shared p → 2 ≤ count
    → IsReady first ((count + 1) / 2) shared (left_pass p)
left_ready first count shared p r two = let few = r.few in
    record {
      of = r.of;
      threads = ap first_half r.threads ∙ first_rising first count;
      some = omega arith;
      few = omega arith;
    }

pub right_ready : (first count : ℕ) (shared : SharedView) (p : PassView) → IsReady first count shared p → 2 ≤ count
    → IsReady (first + (count + 1) / 2) (count - (count + 1) / 2) shared (right_pass p)
right_ready first count shared p r two = let few = r.few in
    record {
      of = r.of;
      threads = ap second_half r.threads ∙ second_rising first count;
      some = omega arith;
      few = omega arith;
    }

pub both_ready : (first some more count : ℕ) (shared : SharedView) (p q : PassView) → IsReady first some shared p
    → IsReady (first + some) more shared q → some + more ≡ count → first + count ≤ 65
    → IsReady first count shared (joined p q)
both_ready first some more count shared p q r t whole few = let s = r.some in record {
  of = r.of;
  threads = (λ i. r.threads i ++ t.threads i) ∙ join_rising first some more ∙ ap (rising first) whole;
  some = omega arith;
  few = few;
}

-- and the pass at the start
pub all_ready : (shared : SharedView) (p : PassView) (events : List Event) → p ≡ first_pass shared events
    → IsReady 1 64 shared p
all_ready shared p events is = record {
  of = ap (λ (q : PassView). q.shared) is;
  threads = ap (λ (q : PassView). q.threads) is ∙ all_rising;
  some = omega arith;
  few = omega arith;
}

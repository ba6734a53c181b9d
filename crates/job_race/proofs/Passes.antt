-- The passes of a row of threads: in halves, and joined.
use Rattle.std.proofs.Common.{◌≡◌, ◌+◌, ◌-◌, ◌/◌, ◌≤◌, ◌∙◌, ℕ, false, [], ◌++◌, length, sym, ap, arith}
use Rattle.loaded_modules.specs.Images.{JobImages, infos, last_offset}
use Rattle.job_turns.specs.Alone.{has_data}
use Rattle.shared_modules.specs.Passes.{PassView, SharedView, joined, left_pass, right_pass}
use Rattle.shared_modules.specs.Threads.{all_rising, first_rising, join_rising, rising-length, second_rising}
use Rattle.shared_modules.specs.Views.{all_threads, first_half, rising, second_half}
use Rattle.job_race.specs.Rows.{CanRace, IsReady}

pub two_threads : (first count : ℕ) (shared : SharedView) (p : PassView) → IsReady first count shared p → 2 ≤ count
    → 2 ≤ length p.threads
two_threads first count shared p ready two =
    let long = ap (length {A = ℕ}) ready.threads ∙ rising-length first count in omega (arith, long, two)

pub left_ready : (first count : ℕ) (shared : SharedView) (p : PassView) → IsReady first count shared p → 2 ≤ count
    → IsReady first ((count + 1) / 2) shared (left_pass p)
left_ready first count shared p ready two = let few = ready.few in record {
  of = ready.of;
  threads = ap first_half ready.threads ∙ first_rising first count;
  some = omega arith;
  low = ready.low;
  few = omega arith;
}

pub right_ready : (first count : ℕ) (shared : SharedView) (p : PassView) → IsReady first count shared p → 2 ≤ count
    → IsReady (first + (count + 1) / 2) (count - (count + 1) / 2) shared (right_pass p)
right_ready first count shared p ready two = let few = ready.few in let low = ready.low in record {
  of = ready.of;
  threads = ap second_half ready.threads ∙ second_rising first count;
  some = omega arith;
  low = omega arith;
  few = omega arith;
}

pub left_can : (m : JobImages) (first count : ℕ) (shared : SharedView) (p : PassView) → CanRace m first count shared p
    → 2 ≤ count → CanRace m first ((count + 1) / 2) shared (left_pass p)
left_can m first count shared p can two = record {
  ready = left_ready first count shared p can.ready two;
  fresh = can.fresh;
  images = can.images;
  alone = can.alone;
}

pub right_can : (m : JobImages) (first count : ℕ) (shared : SharedView) (p : PassView) → CanRace m first count shared p
    → 2 ≤ count → CanRace m (first + (count + 1) / 2) (count - (count + 1) / 2) shared (right_pass p)
right_can m first count shared p can two = record {
  ready = right_ready first count shared p can.ready two;
  fresh = can.fresh;
  images = can.images;
  alone = can.alone;
}

pub both_ready : (first some more count : ℕ) (shared : SharedView) (p q : PassView) → IsReady first some shared p
    → IsReady (first + some) more shared q → some + more ≡ count → first + count ≤ 65
    → IsReady first count shared (joined p q)
both_ready first some more count shared p q left right whole few = let s = left.some in record {
  of = left.of;
  threads = (λ i. left.threads i ++ right.threads i) ∙ join_rising first some more ∙ ap (rising first) whole;
  some = omega arith;
  low = left.low;
  few = few;
}

-- the pass of all threads
pub all_can : (m : JobImages) (shared : SharedView) (p : PassView) → p.shared ≡ shared → p.threads ≡ all_threads
    → p.seen ≡ [] → shared.images ≡ record { infos = infos m; last_offset = last_offset m } → has_data m ≡ false
    → CanRace m 1 64 shared p
all_can m shared p of all fresh images alone = record {
  ready = record { of = of; threads = all ∙ all_rising; some = omega arith; low = omega arith; few = omega arith };
  fresh = fresh;
  images = images;
  alone = alone;
}

pub all_ready : (shared : SharedView) (p : PassView) → IsReady 1 64 shared p
    → (p.shared ≡ shared) × (p.threads ≡ all_threads)
all_ready shared p ready = (ready.of, ready.threads ∙ sym all_rising)

-- Threads of the definitions before their first turns.
use Rattle.std.proofs.Common.{◌≡◌, ◌+◌, ◌-◌, ℕ, zero, suc, true, List, [], ◌∷◌, length, Some, refl, ap, ◌∙◌, arith}
use Rattle.std.specs.Prelude.{nat_lt, slice_get}
use Rattle.std.proofs.lemmas.Option.{get_or_from_slice_get}
use Rattle.job_text.specs.declared.thread_lines.ThreadLine.{ThreadLine}
use Rattle.job_text.specs.Threads.{of_thread}
use Rattle.module_table.specs.declared.events.Event.{Event}
use Rattle.thread_blocks.specs.JobWorlds.{numbered_lines}
use Rattle.thread_blocks.specs.Lines.{Line}
use Rattle.thread_blocks.specs.Turns.{Thread, ready}

-- the lines of a thread, in two spellings
pub lines_at : {X : Type 0} (all : List (List X)) (k : ℕ) (own : List X) → slice_get all k ≡ Some own
    → of_thread all (suc k) ≡ own
lines_at all k own at =
    let positive : nat_lt 0 (suc k) ≡ true = grind arith in
    let index : suc k - 1 ≡ k = omega arith in
    rw (positive, index) (get_or_from_slice_get all k own [] at)

-- `held`: what a thread holds; `from`: all threads from a number on
module _ {S : Type 0} (held : ℕ → S) (from : ℕ → List (List ThreadLine) → List (Thread S Line Event))
    (none : (thread : ℕ) → from thread [] ≡ [])
    (more : (thread : ℕ) (own : List ThreadLine) (lines : List (List ThreadLine))
    → from thread (own ∷ lines) ≡ ready (held thread) (numbered_lines 1 own) ∷ from (suc thread) lines) where
  pub ready-length : (thread : ℕ) (lines : List (List ThreadLine)) → length (from thread lines) ≡ length lines
  ready-length thread [] = ap length (none thread)
  ready-length thread (own ∷ lines) = ap length (more thread own lines) ∙ ap suc (ready-length (suc thread) lines)

  pub record IsReady (thread : ℕ) (lines : List (List ThreadLine)) (k : ℕ) (t : Thread S Line Event) : Type 0 where
    pub own : List ThreadLine
    pub own_is : slice_get lines k ≡ Some own
    pub is : t ≡ ready (held (thread + k)) (numbered_lines 1 own)

  pub ready_at : (thread : ℕ) (lines : List (List ThreadLine)) (k : ℕ) (t : Thread S Line Event)
      → slice_get (from thread lines) k ≡ Some t → IsReady thread lines k t
  ready_at thread [] k t at = let here = rw (none thread) at at in absurd cc
  ready_at thread (own ∷ lines) zero t at =
      let here = rw (more thread own lines) at at in
      let same : t ≡ ready (held thread) (numbered_lines 1 own) = cc in
      let sum : thread ≡ thread + 0 = omega arith in
      record {
        own = own;
        own_is = refl;
        is = same ∙ ap (λ n. ready (held n) (numbered_lines 1 own)) sum;
      }
  ready_at thread (own ∷ lines) (suc k) t at =
      let later = ready_at (suc thread) lines k t (rw (more thread own lines) at at) in
      let sum : suc thread + k ≡ thread + suc k = omega arith in
      record {
        own = later.own;
        own_is = later.own_is;
        is = later.is ∙ ap (λ n. ready (held n) (numbered_lines 1 later.own)) sum;
      }

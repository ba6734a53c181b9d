use Rattle.std.proofs.Common.{◌≡◌, ◌+◌, ◌∙◌, ℕ, List, [], ◌∷◌, Some, length, ap, sym, subst, arith}
use Rattle.std.proofs.lemmas.List.{length-append}
use Rattle.std.specs.Prelude.{slice_get}
use Rattle.job_turns.specs.Standing.{IsFirstRun, Run}
use Rattle.thread_turns.proofs.Lists.{each_push}
use Rattle.job_turns.proofs.threads.first_threads.Goals as goal

pub loop-thread-preserved : goal.loop-thread-preserved
loop-thread-preserved c =
    let m = c.args.modules.now in
    let job = c.args.job.now in
    let before = c.loop-thread.threads.items in
    let r = c.in_ok-new.field-0 in
    let long = ap length c.in_ok-push.ensures.items ∙ length-append before (r ∷ []) in
    let first = subst (λ images. IsFirstRun c.loop-thread.thread images job r) c.requires c.in_ok-new.ensures in
    let here = subst (λ n. IsFirstRun n m job r) (sym c.loop-thread.invariant.0) first in (
      omega (arith, long, c.loop-thread.invariant.0),
      subst (λ (runs : List Run). (k : ℕ) (x : Run) → slice_get runs k ≡ Some x → IsFirstRun (k + 1) m job x)
          (sym c.in_ok-push.ensures.items)
          (each_push (λ k x. IsFirstRun (k + 1) m job x) before r c.loop-thread.invariant.1 here),
    )

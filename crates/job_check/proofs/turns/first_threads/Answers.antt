use Rattle.std.proofs.Common.{◌≡◌, ◌+◌, ◌∙◌, ℕ, List, [], ◌∷◌, Some, length, ap, sym, subst, arith}
use Rattle.std.proofs.lemmas.List.{length-append}
use Rattle.std.specs.Prelude.{slice_get}
use Rattle.job_check.specs.Standing.{IsFirstRun, Run}
use Rattle.job_check.proofs.FirstTurn.{none_legal, start_is}
use Rattle.thread_turns.proofs.Lists.{each_push}
use Rattle.job_check.proofs.turns.first_threads.Goals as goal

pub first_data-requires-clause-legal : goal.first_data-requires-clause-legal
first_data-requires-clause-legal c =
    none_legal c.args.images.now c.infos.result.now c.static_offset-last_offset.result c.count.result c.infos.ensures.value c.infos.ensures.kept
    c.static_offset-last_offset.ensures.value c.count.ensures.value c.static_offset-last_offset.ensures.low

pub new-requires-in-loop-thread-clause-legal : goal.new-requires-in-loop-thread-clause-legal
new-requires-in-loop-thread-clause-legal c =
    none_legal c.args.images.now c.infos.result.now c.static_offset-last_offset.result c.count.result c.infos.ensures.value c.infos.ensures.kept
    c.static_offset-last_offset.ensures.value c.count.ensures.value c.static_offset-last_offset.ensures.low

pub returns : goal.returns
returns c = record {
  legal = none_legal c.args.images.now c.infos.result.now c.static_offset-last_offset.result c.count.result c.infos.ensures.value c.infos.ensures.kept
      c.static_offset-last_offset.ensures.value c.count.ensures.value c.static_offset-last_offset.ensures.low;
  past_is = c.in_ok-table.ensures
      ∙ start_is c.args.images.now c.infos.result.now c.static_offset-last_offset.result c.count.result c.infos.ensures.value
      c.static_offset-last_offset.ensures.value c.count.ensures.value;
  shared_is = c.in_ok-ranges.ensures;
  count = omega (
    arith,
    c.loop-thread.invariant.0,
    c.threads-thread-end.ensures.value,
    c.loop-thread-test.false,
    c.loop-thread.auto.thread-end (omega arith),
  );
  each = c.loop-thread.invariant.1;
}

pub loop-thread-preserved : goal.loop-thread-preserved
loop-thread-preserved c =
    let ls = c.args.images.now in
    let job = c.args.job.now in
    let before = c.loop-thread.threads.items in
    let r = c.in_ok-new.field-0 in
    let long = ap length c.in_ok-push.ensures.items ∙ length-append before (r ∷ []) in
    let here = subst (λ n. IsFirstRun n ls job r) (sym c.loop-thread.invariant.0) c.in_ok-new.ensures in (
      omega (arith, long, c.loop-thread.invariant.0),
      subst (λ (runs : List Run). (k : ℕ) (x : Run) → slice_get runs k ≡ Some x → IsFirstRun (k + 1) ls job x)
          (sym c.in_ok-push.ensures.items)
          (each_push (λ k x. IsFirstRun (k + 1) ls job x) before r c.loop-thread.invariant.1 here),
    )

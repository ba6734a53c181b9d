use Rattle.std.proofs.Common.{sym, subst, arith}
use Rattle.job_check.specs.Histories.{IsLeftBy}
use Rattle.marked_memory.specs.Kept.{Kept}
use Rattle.job_check.proofs.FirstTurn.{first_left}
use Rattle.job_check.proofs.thread.MeantThread.new.Goals as goal

pub see-requires : goal.see-requires
see-requires c =
    subst (λ (k : Kept). IsLeftBy k.images c.args.table.now) (sym c.in_ok-space.ensures)
    (subst (IsLeftBy c.args.images.now) (sym c.requires.start) (first_left c.args.images.now c.requires.legal))

pub invariant_of-result : goal.invariant_of-result
invariant_of-result c = record {
  lines = c.in_ok-script.ensures.few;
  begun = omega (arith, c.in_ok-script.ensures.begun);
}

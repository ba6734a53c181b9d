use Rattle.std.proofs.Common.{sym, ◌∙◌, arith}
use Rattle.job_turns.proofs.WholeTurns.{new_startups}
use Rattle.job_turns.proofs.runner.Runner.new.Goals as goal

pub invariant_of-result : goal.invariant_of-result
invariant_of-result c = record {
  names = sym (c.in_ok-space.ensures.images ∙ c.modules.ensures);
  startups = new_startups c.args.thread c.modules.result.now c.in_ok-space.space c.in_ok-space.ensures c.history_is_lawful.ensures;
  fuel = c.in_ok-script.ensures.little;
  lines = c.in_ok-script.ensures.few;
  begun = omega (arith, c.in_ok-script.ensures.begun);
  steps = tt;
}

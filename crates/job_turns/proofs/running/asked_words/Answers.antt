use Rattle.std.proofs.Common.{sym, ◌∙◌}
use Rattle.job_turns.proofs.Numbers.{no_first}
use Rattle.job_turns.proofs.running.asked_words.Goals as goal

pub returns-in_err-first : goal.returns-in_err-first
returns-in_err-first c =
    c.from_residual.ensures
    ∙ sym (no_first c.args.space.now c.args.asking.now c.args.is_descriptor c.args.address
    (sym c.in_err-first.ensures.value))

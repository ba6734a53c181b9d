use Rattle.std.proofs.Common.{sym, ◌∙◌}
use Rattle.job_turns.proofs.Numbers.{asked_none, asked_some}
use Rattle.job_turns.proofs.running.asked_at.Goals as goal

pub returns-in_err-asking : goal.returns-in_err-asking
returns-in_err-asking c =
    c.from_residual.ensures
    ∙ sym (asked_none c.args.space.now c.args.machine.now.state c.place-is_descriptor.result c.asked_address-address.result
    c.place-is_descriptor.ensures c.asked_address-address.ensures (sym c.in_err-asking.ensures.found))

pub returns : goal.returns
returns c =
    c.asked_words.ensures
    ∙ sym (asked_some c.args.space.now c.args.machine.now.state c.place-is_descriptor.result c.asked_address-address.result
    c.place-is_descriptor.ensures c.asked_address-address.ensures c.in_ok-asking.asking
    (sym c.in_ok-asking.ensures.found))

use Rattle.std.proofs.Common.{◌∙◌, Some, sym, ap}
use Rattle.job_turns.specs.declared.asking.LineAnswer.TheVariants.{Opened, Closed}
use Rattle.module_table.specs.History.{left}
use Rattle.thread_blocks.specs.Lines.{refused_close, refused_open}
use Rattle.job_turns.specs.Asking.{answer_to}
use Rattle.job_turns.proofs.CutTurns.{handed_ok, close_same, open_same}
use Rattle.job_turns.proofs.answers.answer.Goals as goal

pub returns-in-Ok-clause-answer : goal.returns-in-Ok-clause-answer
returns-in-Ok-clause-answer c =
    ap (λ answer. Some (Opened answer)) (sym (handed_ok refused_open _ _ c.in-Ok.opened
    (open_same c.args.registry.now c.in-Opens.image ∙ c.in-Ok.ensures.opened)))
    ∙ ap (answer_to (left c.args.registry.now)) (sym c.in-Opens.is)

pub returns-in-Ok-close-clause-answer : goal.returns-in-Ok-close-clause-answer
returns-in-Ok-close-clause-answer c =
    ap (λ answer. Some (Closed answer)) (sym (handed_ok refused_close _ _ c.in-Ok-close.closed
    (close_same c.args.registry.now c.in-Closes.image ∙ c.in-Ok-close.ensures.closed)))
    ∙ ap (answer_to (left c.args.registry.now)) (sym c.in-Closes.is)

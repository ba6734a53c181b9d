use Rattle.std.proofs.Common.{◌∙◌, ap, subst}
use Rattle.module_table.specs.Past.{accepts}
use Rattle.thread_blocks.specs.Lines.{event_at}
use Rattle.job_turns.specs.Starting.{Sees}
use Rattle.job_turns.proofs.HeldWith.{sees_own}
use Rattle.job_turns.proofs.OpensBegun.{one_legal}
use Rattle.job_turns.proofs.lines.see.Goals as goal

pub look-requires-clause-legal : goal.look-requires-clause-legal
look-requires-clause-legal c =
    let past = c.args.space.now.vector.past in
    one_legal past _ (ap (λ t. accepts past
    (event_at t c.args.number c.args.opens c.args.line.now.image)) c.thread.ensures.value ∙ c.requires.accepted)

pub returns-clause-sees : goal.returns-clause-sees
returns-clause-sees c =
    subst (λ t. Sees c.args.space.now
    (event_at t c.args.number c.args.opens c.args.line.now.image) c.look.new.self) c.thread.ensures.value
    (sees_own c.args.space.now c.look.new.self _ c.in_ok-look.ensures.ok c.history_is_lawful.ensures c.history_is_lawful-2.ensures)

use Rattle.command_line.specs.declared.tasks.Command.TheVariants.{Plain}
use Rattle.commands.proofs.Asked.{asked_by}
use Rattle.commands.proofs.Completing.{output_completes}
use Rattle.commands.proofs.Shown.{output_shows}
use Rattle.commands.proofs.top.tlsld_plain.Goals as goal

pub returns-clause-asked : goal.returns-clause-asked
returns-clause-asked g c =
    asked_by (g.S.Store.files c.args.store.now) (Plain c.args.task.now) c.output-output.result
    (g.S.Store.asked c.args.store.now) _ c.deliver.result c.output-output.ensures.asks c.deliver.ensures.own

pub returns-clause-shows : goal.returns-clause-shows
returns-clause-shows g c =
    output_shows (g.S.Store.files c.args.store.now) _
    (Plain c.args.task.now) c.output-output.result _ _ _ _ c.deliver.result
    c.output-output.ensures.cause c.output-output.ensures.says c.output-output.ensures.may c.deliver.ensures.delivered

pub returns-clause-completes : goal.returns-clause-completes
returns-clause-completes g c =
    output_completes (g.S.Store.files c.args.store.now) _
    (Plain c.args.task.now) c.output-output.result _ _ _ _ c.deliver.result
    c.output-output.ensures.cause c.output-output.ensures.says c.output-output.ensures.may c.deliver.ensures.delivered

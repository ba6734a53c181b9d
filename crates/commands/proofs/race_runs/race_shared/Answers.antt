use Rattle.std.proofs.Common.{◌∙◌}
use Rattle.commands.proofs.Raced.{all_of_them, are_raced}
use Rattle.commands.proofs.race_runs.race_shared.Goals as goal

pub finish-registry-requires-clause-all : goal.finish-registry-requires-clause-all
finish-registry-requires-clause-all g c = all_of_them _ c.race_job-pass.ensures.whole.1

pub returns-clause-ran : goal.returns-clause-ran
returns-clause-ran g c =
    are_raced c.args.modules.now c.args.job.now c.finish-registry.result
    (c.finish-registry.ensures.images ∙ c.requires.images) c.history_is_lawful.ensures.legal
    _ c.finish-registry.ensures.events c.race_job-pass.result.1 c.race_job-pass.ensures.raced c.race_job-pass.ensures.history

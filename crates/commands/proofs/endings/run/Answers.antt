use Rattle.std.proofs.Common.{rules}
use Rattle.commands.proofs.Ready.{are_links}
use Rattle.commands.proofs.endings.run.Goals as goal

pub told_run-requires : goal.told_run-requires
told_run-requires g c = (
  search rules,
  are_links c.args.job.now c.args.images.now c.args.ready.items c.requires
      (c.are_of_few.ensures.few c.if-are_of_few.true),
)

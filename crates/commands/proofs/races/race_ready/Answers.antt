use Rattle.commands.proofs.Ready.{are_links, dataless}
use Rattle.commands.proofs.races.race_ready.Goals as goal

pub told_race-requires-clause-links : goal.told_race-requires-clause-links
told_race-requires-clause-links g c κs within =
    are_links c.args.job.now c.args.images.now c.args.ready.items c.requires.linked
    (c.are_of_few.ensures.few c.if-are_of_few.true)

pub told_race-requires-clause-dataless : goal.told_race-requires-clause-dataless
told_race-requires-clause-dataless g c κs within =
    dataless c.args.job.now c.args.images.now c.args.ready.items c.requires.linked c.requires.allowed

use Rattle.std.proofs.Common.{rules}
use Rattle.commands.proofs.Raced.{race_told}
use Rattle.commands.proofs.race_runs.told_race.Goals as goal

pub write_images-requires : goal.write_images-requires
write_images-requires g c = (search rules, c.requires.links.links.ready.together.links)

pub race_linked-requires-clause-links : goal.race_linked-requires-clause-links
race_linked-requires-clause-links g c κs within =
    (c.args.ready.items, c.requires.links, c.requires.dataless, c.in_ok-all.ensures)

pub returns : goal.returns
returns g c =
    race_told c.args.job.now c.args.ready.items c.in_ok-transcript.transcript
    (c.in_ok-transcript.ensures.ran c.args.ready.items c.requires.links c.in_ok-all.ensures) c.text_of_transcript.result c.text_of_transcript.ensures

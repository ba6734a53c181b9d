use Rattle.commands.proofs.Raced.{raced, shares_none}
use Rattle.commands.proofs.race_runs.race_linked.Goals as goal

pub modules_again-requires : goal.modules_again-requires
modules_again-requires g c = let (ls, links, dataless, all_is) = c.requires.links in
    record { links = (ls, links, all_is) }

pub race_modules-requires-clause-alone : goal.race_modules-requires-clause-alone
race_modules-requires-clause-alone g c κs within =
    let (ls, links, dataless, all_is) = c.requires.links in
    shares_none c.dataless_objects_share_no_data.ensures c.args.job.now ls links dataless c.args.all.items all_is
    c.in_ok-modules.modules c.in_ok-modules.ensures.back

pub returns-clause-ran : goal.returns-clause-ran
returns-clause-ran g c =
    raced c.linked_threads_print.ensures c.racers_are_in_history.ensures c.racers_print_their_points.ensures
    c.linked_images_hold_the_table.ensures c.args.job.now
    c.keeps_limits.ensures.few_threads c.args.all.items c.in_ok-modules.modules
    c.in_ok-modules.ensures.back c.race_modules.result c.race_modules.ensures.ran

use Rattle.std.proofs.Common.{◌∙◌}
use Rattle.command_line.specs.Rewritings.{is_allowed}
use Rattle.job_link.specs.declared.writable.WritableSections.TheVariants.{Kept}
use Rattle.job_link.specs.Mentions.{bytes_in, object_names}
use Rattle.commands.specs.Purposes.{Makes}
use Rattle.commands.proofs.Asked.{asks_whole}
use Rattle.commands.proofs.Fetched.{files_say}
use Rattle.commands.proofs.Untold.{comes_of_ending}
use Rattle.commands.proofs.told.told_of_objects.Goals as goal

pub returns-clause-says : goal.returns-clause-says
returns-clause-says g c =
    files_say (λ before. Makes c.args.course.ending before (g.S.Store.files c.told_of_files.new.store))
    (is_allowed c.args.course.rewriting) Kept
    (g.S.Store.files c.args.store.now)
    (g.S.Store.files c.fetch_objects.new.store) c.in_ok-files.ensures.files c.args.job.now c.in_ok-files.files c.in_ok-files.ensures.bytes
    c.keeps_limits.ensures.mentioned c.told_of_files.result c.told_of_files.ensures.says

pub returns-clause-asks : goal.returns-clause-asks
returns-clause-asks g c =
    asks_whole (object_names c.args.job.now) (g.S.Store.asked c.args.store.now)
    (g.S.Store.asked c.told_of_files.new.store) c.told_of_files.result
    (c.told_of_files.ensures.asked ∙ c.in_ok-files.ensures.asked)

pub returns-clause-own : goal.returns-clause-own
returns-clause-own g c =
    comes_of_ending c.args.course.ending (g.S.Store.files c.fetch_objects.new.store)
    (g.S.Store.files c.told_of_files.new.store) (is_allowed c.args.course.rewriting) Kept
    (bytes_in c.in_ok-files.files) c.args.job.now c.told_of_files.result c.told_of_files.ensures.says

use Rattle.std.proofs.Common.{ℕ, List, Option, Ok, Some, subst}
use Rattle.command_line.specs.Rewritings.{is_allowed}
use Rattle.job_link.specs.declared.writable.WritableSections.TheVariants.{Kept}
use Rattle.commands.specs.Jobs.{ObjectsSay, has}
use Rattle.commands.specs.Links.{FilesAfter}
use Rattle.commands.specs.Purposes.{JobTold, Makes, Tells, wanted_by}
use Rattle.commands.proofs.Found.{has_found, puts_found, tells_found}
use Rattle.commands.proofs.Saying.{objects_named, says_by}
use Rattle.commands.proofs.Untold.{comes_of_purpose}
use Rattle.commands.proofs.told.told_of_text.Goals as goal

pub returns-in-Ok-ending-clause-files : goal.returns-in-Ok-ending-clause-files
returns-in-Ok-ending-clause-files g c =
    subst (λ (out : Option (List ℕ)). FilesAfter out (g.S.Store.files c.args.store.now)
    (g.S.Store.files c.told_of_objects.new.store) c.told_of_objects.result)
    (puts_found c.args.purpose c.in-Ok.job c.in-Ok-ending.ending c.in-Ok-ending.ensures.ending) c.told_of_objects.ensures.files

pub returns-in-Ok-ending-clause-says : goal.returns-in-Ok-ending-clause-says
returns-in-Ok-ending-clause-says g c =
    let purpose = c.args.purpose in
    let job = c.in-Ok.job in
    let ending = c.in-Ok-ending.ending in
    let relax = is_allowed c.args.rewriting in
    let after = g.S.Store.files c.told_of_objects.new.store in
    rw c.in-Ok.ensures.job (says_by (g.S.Store.files c.args.store.now)
    (λ fs. ObjectsSay (Makes ending (Some fs) after) relax Kept fs job)
    (λ fs. JobTold purpose c.args.rewriting fs after (Ok job)) c.told_of_objects.result
    (λ fs e. objects_named (Makes ending (Some fs) after) (Tells purpose (Some fs) after) relax Kept fs job
    (has job (wanted_by purpose)) (has_found purpose job ending c.in-Ok-ending.ensures.ending)
    (tells_found (Some fs) after purpose job ending c.in-Ok-ending.ensures.ending))
    c.told_of_objects.ensures.says)

pub returns-in-Ok-ending-clause-own : goal.returns-in-Ok-ending-clause-own
returns-in-Ok-ending-clause-own g c =
    comes_of_purpose c.args.purpose c.in-Ok.job c.in-Ok-ending.ending c.in-Ok-ending.ensures.ending c.told_of_objects.result c.told_of_objects.ensures.own

use Rattle.std.proofs.Common.{arith, subst, sym}
use Rattle.command_replies.specs.Steps.{Comes}
use Rattle.standing_sequences.specs.Laws.{IsLinked}
use Rattle.commands.specs.Links.{IsPut}
use Rattle.commands.specs.declared.purpose.Ending.{Ending}
use Rattle.commands.specs.Purposes.{IsWithin, Makes}
use Rattle.commands.proofs.ImageEndings.{its, says_at}
use Rattle.commands.proofs.Ready.{are_linked, count_linked}
use Rattle.commands.proofs.Saying.{items}
use Rattle.commands.proofs.endings.ended.Goals as goal

pub verdict_line-requires : goal.verdict_line-requires
verdict_line-requires g c = (c.args.linked.images.now, c.requires.linked)

pub put_image-requires-clause-linked : goal.put_image-requires-clause-linked
put_image-requires-clause-linked g c κs within =
    let job = c.args.linked.job.now in
    let images = c.args.linked.images.now in
    let ls = c.args.linked.ready.items in
    let inside = subst (λ e. IsWithin e job) c.in-File.is c.requires.place in
    its ls c.in-File.place c.index.result.now
    (omega (arith, inside, count_linked job images ls c.requires.linked)) c.index.ensures IsLinked
    (are_linked job images ls c.requires.linked)

pub returns-in-File-clause-says : goal.returns-in-File-clause-says
returns-in-File-clause-says g c =
    let job = c.args.linked.job.now in
    let images = c.args.linked.images.now in
    let ls = c.args.linked.ready.items in
    let before = g.S.Store.files c.args.store.now in
    let after = g.S.Store.files c.put_image.new.store in
    let put = c.in-File.put in
    let inside = subst (λ e. IsWithin e job) c.in-File.is c.requires.place in
    subst (λ (e : Ending). Comes items (Makes e before after job ls) c.put_image.result) (sym c.in-File.is)
    (says_at ls c.in-File.place c.index.result.now
    (omega (arith, inside, count_linked job images ls c.requires.linked)) c.index.ensures
    (IsPut before after put.image.now put.out.now) c.put_image.result c.put_image.ensures.says)

use Rattle.commands.specs.Links.{LinkSays}
use Rattle.commands.proofs.Kept.{put_keeps, put_leaves}
use Rattle.commands.proofs.links.link.Goals as goal

pub returns-clause-files : goal.returns-clause-files
returns-clause-files g c =
    let after = g.S.Store.files c.told.new.store in
    put_leaves c.args.put.out.now after
    (λ fs. LinkSays fs after c.args.job.now c.args.put.image.now c.args.put.out.now c.args.rewriting)
    (g.S.Store.files c.args.store.now)
    c.told.result c.told.ensures.files c.told.ensures.says

pub returns-clause-kept : goal.returns-clause-kept
returns-clause-kept g c =
    put_keeps c.args.put.out.now (g.S.Store.files c.told.new.store)
    (g.S.Store.files c.args.store.now) c.told.result c.told.ensures.files

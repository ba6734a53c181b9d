use Rattle.std.proofs.Common.{ap}
use Rattle.std.proofs.lemmas.Result.{IfOk-weaker}
use Rattle.loaded_modules.specs.Images.{JobImages}
use Rattle.commands.proofs.Again.{all_hold, are_modules, modules_back}
use Rattle.commands.proofs.runs.modules_again.Goals as goal

pub images_again-requires : goal.images_again-requires
images_again-requires c =
    let (ls, links, all_is) = c.requires.links in
    all_hold c.args.job.now ls links c.args.all.items all_is c.images_hold_tls.ensures

pub new-requires : goal.new-requires
new-requires c =
    let (ls, links, all_is) = c.requires.links in
    are_modules c.args.job.now ls links c.args.all.items all_is c.linked_images_are_modules.ensures c.in_ok-images.images.items
    (record { read = c.in_ok-images.ensures.read; again = c.in_ok-images.ensures.again })

pub returns-clause-back : goal.returns-clause-back
returns-clause-back c =
    modules_back c.args.job.now c.args.all.items c.in_ok-images.images.items
    (record { read = c.in_ok-images.ensures.read; again = c.in_ok-images.ensures.again }) c.new.result c.new.ensures

pub returns-clause-kinds : goal.returns-clause-kinds
returns-clause-kinds c = IfOk-weaker c.new.result _ _ (λ modules is. ap (λ (m : JobImages). m.kinds) is) c.new.ensures

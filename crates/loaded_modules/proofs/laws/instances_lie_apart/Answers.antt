use Rattle.loaded_modules.proofs.Ranges.{instances_apart}
use Rattle.loaded_modules.proofs.laws.instances_lie_apart.Goals as goal

pub returns : goal.returns
returns c = instances_apart c.args.first.now c.args.second.now c.image_is_spelled.ensures c.image_is_spelled-2.ensures

use Rattle.linked_modules.proofs.Members.{are_modules}
use Rattle.linked_modules.proofs.laws.linked_images_are_modules.Goals as goal

pub returns : goal.returns
returns c = are_modules

use Rattle.link_core.proofs.Framed.{framed}
use Rattle.link_core.proofs.laws.images_are_framed.Goals as goal

pub returns : goal.returns
returns c l d given links is = framed l given links.sound d is

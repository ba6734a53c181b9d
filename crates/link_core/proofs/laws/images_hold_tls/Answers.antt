use Rattle.link_core.specs.Images.{image_of}
use Rattle.link_core.proofs.Loads.{holds_tls}
use Rattle.link_core.proofs.laws.images_hold_tls.Goals as goal

pub returns : goal.returns
unfolding image_of
returns c l given links = holds_tls l given links.sound.limits

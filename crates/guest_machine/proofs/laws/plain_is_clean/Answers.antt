use Rattle.guest_machine.proofs.Clean.{plain-clean}
use Rattle.guest_machine.proofs.laws.plain_is_clean.Goals as goal

pub returns : goal.returns
returns c = plain-clean

use Rattle.closed_forms.proofs.NoStack.{asks_first}
use Rattle.closed_forms.proofs.laws.stack_is_asked_first.Goals as goal

pub returns : goal.returns
returns c = asks_first

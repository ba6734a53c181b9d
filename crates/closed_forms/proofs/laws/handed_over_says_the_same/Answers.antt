use Rattle.closed_forms.proofs.HandedOver.{says_the_same}
use Rattle.closed_forms.proofs.laws.handed_over_says_the_same.Goals as goal

pub returns : goal.returns
returns c = says_the_same

use Rattle.closed_forms.proofs.LateData.{says_the_same}
use Rattle.closed_forms.proofs.laws.late_data_says_the_same.Goals as goal

pub returns : goal.returns
returns c = says_the_same

use Rattle.closed_forms.proofs.EachForm.{says_the_same}
use Rattle.closed_forms.proofs.laws.each_form_says_the_same.Goals as goal

pub returns : goal.returns
returns c = says_the_same

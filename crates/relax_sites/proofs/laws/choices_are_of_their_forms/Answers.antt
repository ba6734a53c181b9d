use Rattle.relax_sites.proofs.Tables.{own_choice}
use Rattle.relax_sites.proofs.laws.choices_are_of_their_forms.Goals as goal

pub returns : goal.returns
returns c = own_choice

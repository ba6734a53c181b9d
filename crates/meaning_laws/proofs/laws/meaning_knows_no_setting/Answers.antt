use Rattle.meaning_laws.proofs.Settings.{no_setting}
use Rattle.meaning_laws.proofs.laws.meaning_knows_no_setting.Goals as goal

pub returns : goal.returns
returns c = no_setting

use Rattle.meaning_laws.proofs.NoData.{share_none}
use Rattle.meaning_laws.proofs.laws.images_without_data_share_none.Goals as goal

pub returns : goal.returns
returns c = λ ls all. share_none ls all

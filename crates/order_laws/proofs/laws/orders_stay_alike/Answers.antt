use Rattle.order_laws.proofs.Related.{orders_stay}
use Rattle.order_laws.proofs.laws.orders_stay_alike.Goals as goal

pub returns : goal.returns
returns c = orders_stay

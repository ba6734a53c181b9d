use Rattle.lawful_points.proofs.Jobs.{looks_lawful}
use Rattle.lawful_points.proofs.laws.looks_are_lawful.Goals as goal

pub returns : goal.returns
returns c = λ l fuel lines order thread. looks_lawful l fuel lines order thread

use Rattle.shared_data.proofs.Jobs.{machine_data_last}
use Rattle.shared_data.proofs.laws.data_are_last_left.Goals as goal

pub returns : goal.returns
returns c = λ l fuel lines legal order instance offset bytes byte found at.
    machine_data_last l fuel lines legal order instance offset bytes byte found at

use Rattle.shared_data.proofs.Jobs.{meant_data_last}
use Rattle.shared_data.proofs.laws.meant_data_are_last_left.Goals as goal

pub returns : goal.returns
returns c = λ m fuel lines legal order instance offset bytes byte found at.
    meant_data_last m fuel lines legal order instance offset bytes byte found at

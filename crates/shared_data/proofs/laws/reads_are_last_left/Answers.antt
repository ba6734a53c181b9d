use Rattle.shared_data.proofs.Jobs.{machine_reads_last}
use Rattle.shared_data.proofs.laws.reads_are_last_left.Goals as goal

pub returns : goal.returns
returns c = λ l fuel lines legal order thread t from steps mine begun place at there.
    machine_reads_last l fuel lines legal order thread t from steps mine begun place at there

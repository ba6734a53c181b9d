use Rattle.shared_data.proofs.Jobs.{meant_reads_last}
use Rattle.shared_data.proofs.laws.meant_reads_are_last_left.Goals as goal

pub returns : goal.returns
returns c = λ m fuel lines legal order thread t from steps mine begun place at there.
    meant_reads_last m fuel lines legal order thread t from steps mine begun place at there

use Rattle.link_core.proofs.LinkFaults.{first_fault}
use Rattle.link_core.proofs.linking.written.Goals as goal

pub returns-in-Some-clause-fault : goal.returns-in-Some-clause-fault
returns-in-Some-clause-fault g c = first_fault c.args.ready c.requires c.in-Some.fault c.in-Some.ensures

use Rattle.link_core.proofs.LinkFaults.{first_fault}
use Rattle.job_link.proofs.preparing.fitting.Goals as goal

pub returns-in-None-clause-links : goal.returns-in-None-clause-links
returns-in-None-clause-links c = record { sound = c.requires; fits = c.in-None.ensures }

pub returns-clause-fault : goal.returns-clause-fault
returns-clause-fault c = first_fault c.args.ready c.requires c.in-Some.fault c.in-Some.ensures

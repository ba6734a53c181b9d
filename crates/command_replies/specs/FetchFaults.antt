-- The fault of a command for a fault of the store.
use Rattle.ports.specs.declared.faults.FetchFault.{FetchFault}
use Rattle.ports.specs.declared.faults.FetchFault.TheVariants as fetch
use Rattle.ports.specs.declared.faults.PutFault.{PutFault}
use Rattle.ports.specs.declared.faults.PutFault.TheVariants as put
use Rattle.command_replies.specs.declared.fault.CommandFault.{CommandFault}
use Rattle.command_replies.specs.declared.fault.CommandFault.TheVariants as fault

abbrev pub fault_of_fetch : FetchFault → CommandFault
fault_of_fetch fetch.Failed = fault.Store
fault_of_fetch fetch.OutOfMemory = fault.OutOfMemory

abbrev pub fault_of_put : PutFault → CommandFault
fault_of_put put.Failed = fault.Store
fault_of_put put.OutOfMemory = fault.OutOfMemory

-- The fault for an error of the host.
use Rattle.std.specs.declared.io.ErrorKind.{ErrorKind}
use Rattle.std.specs.declared.io.ErrorKind.TheVariants as kind
use Rattle.ports.specs.declared.faults.FetchFault.{FetchFault}
use Rattle.ports.specs.declared.faults.FetchFault.TheVariants as fetch
use Rattle.ports.specs.declared.faults.PutFault.{PutFault}
use Rattle.ports.specs.declared.faults.PutFault.TheVariants as put

-- out of memory in the host is `OutOfMemory`; any other error is a fault of the store
abbrev pub fetch_fault : ErrorKind → FetchFault
fetch_fault kind.OutOfMemory = fetch.OutOfMemory
fetch_fault _ = fetch.Failed

-- out of memory in the host is `OutOfMemory`; any other error is a fault of the store or sink
abbrev pub put_fault : ErrorKind → PutFault
put_fault kind.OutOfMemory = put.OutOfMemory
put_fault _ = put.Failed

-- What a refusal of an image that is sound tells.
use Rattle.std.proofs.Common.{Some}
use Rattle.link_faults.specs.declared.fault.LinkFault.{LinkFault}
use Rattle.link_faults.specs.declared.fault.LinkFault.TheVariants.{OutOfMemory, At}
use Rattle.link_faults.specs.declared.fault.LinkFaultKind.TheVariants as fault
use Rattle.link_needs.specs.Linking.{Linking}
use Rattle.link_tables.specs.Faults.{IsLinkFault, IsSound}
use Rattle.link_tables.specs.FaultLaws.{IsFirstOverflow}

-- that of a field
pub first_fault : (l : Linking) → IsSound l → (told : LinkFault) → IsFirstOverflow l told → IsLinkFault l told
first_fault l sound OutOfMemory is = absurd is
first_fault l sound (At fault.Overflow (Some o) s e) is = (sound.resolved, (sound, is.0, is.1))
first_fault l sound (At kind object s e) is = absurd is

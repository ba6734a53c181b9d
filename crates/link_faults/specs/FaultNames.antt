-- The kinds of fault as they are printed.
use Rattle.std.specs.Prelude.{ℕ, List, codes}
use Rattle.link_faults.specs.declared.fault.LinkFaultKind.{LinkFaultKind}
use Rattle.link_faults.specs.declared.fault.LinkFaultKind.TheVariants.{Undefined, Duplicate, NotTls, Overflow}
use Rattle.link_faults.specs.declared.fault.LinkFaultKind.TheVariants.{LocalExecInModule, NarrowInModule, TlsTooLarge}
use Rattle.link_faults.specs.declared.fault.LinkFaultKind.TheVariants.{ImageTooLarge, NoTls}

abbrev pub kind_name : LinkFaultKind → List ℕ
kind_name Undefined = codes "Undefined"
kind_name Duplicate = codes "Duplicate"
kind_name NotTls = codes "NotTls"
kind_name Overflow = codes "Overflow"
kind_name LocalExecInModule = codes "LocalExecInModule"
kind_name NarrowInModule = codes "NarrowInModule"
kind_name TlsTooLarge = codes "TlsTooLarge"
kind_name ImageTooLarge = codes "ImageTooLarge"
kind_name NoTls = codes "NoTls"

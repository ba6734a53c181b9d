-- The kinds of fault as they are printed.
use Rattle.std.specs.Prelude.{ℕ, List, codes}
use Rattle.image_rules.specs.declared.fault.FaultKind.{FaultKind}
use Rattle.image_rules.specs.declared.fault.FaultKind.TheVariants.{Truncated, Header, Segment, Dynamic, Relocation}
use Rattle.image_rules.specs.declared.fault.FaultKind.TheVariants.{TlsPlace}

abbrev pub kind_name : FaultKind → List ℕ
kind_name Truncated = codes "Truncated"
kind_name Header = codes "Header"
kind_name Segment = codes "Segment"
kind_name Dynamic = codes "Dynamic"
kind_name Relocation = codes "Relocation"
kind_name TlsPlace = codes "TlsPlace"

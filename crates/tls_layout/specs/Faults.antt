-- When a layout is refused.
use Rattle.std.specs.Prelude.{◌≡◌, ◌<◌, ◌≤◌, ◌^◌, None}
use Rattle.link_faults.specs.declared.fault.LinkFault.{LinkFault}
use Rattle.link_faults.specs.declared.fault.LinkFault.TheVariants.{OutOfMemory, At}
use Rattle.link_faults.specs.declared.fault.LinkFaultKind.{LinkFaultKind}
use Rattle.link_faults.specs.declared.fault.LinkFaultKind.TheVariants.{TlsTooLarge, ImageTooLarge}
use Rattle.tls_layout.specs.Sections.{Layout}
use Rattle.tls_layout.specs.Places.{span, tls_size}

-- a fault of the image as a whole
abbrev pub IsWhole : LinkFaultKind → LinkFault → Type 0
IsWhole kind fault = fault ≡ At kind None 0 0

-- which kinds of fault a layout may have, and when; the TLS segment is checked first
abbrev pub Exceeds : LinkFaultKind → Layout → Type 0
Exceeds TlsTooLarge p = 2 ^ 20 < tls_size p.sections
Exceeds ImageTooLarge p = (tls_size p.sections ≤ 2 ^ 20) × (2 ^ 24 < span p.kind p.sections)
Exceeds _ p = ⊥

-- the error of placing: out of memory, or the fault of what exceeds its limit
abbrev pub IsLayoutFault : Layout → LinkFault → Type 0
IsLayoutFault p OutOfMemory = Unit {0}
IsLayoutFault p (At kind object section entry) = (object ≡ None) × (section ≡ 0) × (entry ≡ 0) × Exceeds kind p

-- out of memory, or a fault of the image as a whole, which occurs where a fact holds
abbrev pub IsFaultWhere : LinkFaultKind → Type 0 → LinkFault → Type 0
IsFaultWhere kind P OutOfMemory = Unit {0}
IsFaultWhere kind P (At k object section entry) = (k ≡ kind) × (object ≡ None) × (section ≡ 0) × (entry ≡ 0) × P

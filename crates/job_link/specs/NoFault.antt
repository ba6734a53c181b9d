-- A link that succeeds has no fault.
use Rattle.std.proofs.Common.{ℕ, Option, Some, None, inl, inr, arith}
use Rattle.link_core.specs.Faults.{IsLinkFault, Links}
use Rattle.link_faults.specs.declared.fault.LinkFault.TheVariants.{At}
use Rattle.link_faults.specs.declared.fault.LinkFaultKind.{LinkFaultKind}
use Rattle.link_faults.specs.declared.fault.LinkFaultKind.TheVariants as fault
use Rattle.link_needs.specs.Linking.{Linking}

-- neither a first fault of any kind, nor any other
pub no_link_fault : (l : Linking) (kind : LinkFaultKind) (object : Option ℕ) (section entry : ℕ) → Links l
    → IsLinkFault l (At kind object section entry) → ⊥
no_link_fault l fault.Undefined (Some o) section entry links first =
    links.sound.resolved fault.Undefined (omega arith) o section entry first.here
no_link_fault l fault.Undefined None section entry links (resolved, never) = never
no_link_fault l fault.Duplicate (Some o) section entry links first =
    links.sound.resolved fault.Duplicate (omega arith) o section entry first.here
no_link_fault l fault.Duplicate None section entry links (resolved, never) = never
no_link_fault l fault.NotTls (Some o) section entry links first =
    links.sound.resolved fault.NotTls (omega arith) o section entry first.here
no_link_fault l fault.NotTls None section entry links (resolved, never) = never
no_link_fault l fault.LocalExecInModule (Some o) section entry links (resolved, first) =
    links.sound.kind.no_local_exec.nowhere o section entry first.here
no_link_fault l fault.LocalExecInModule None section entry links (resolved, never) = never
no_link_fault l fault.NarrowInModule (Some o) section entry links (resolved, (without, first)) =
    links.sound.kind.no_narrow.nowhere o section entry first.here
no_link_fault l fault.NarrowInModule None section entry links (resolved, never) = never
no_link_fault l fault.TlsTooLarge object section entry links (resolved, (whole, kind, large)) =
    omega (arith, large, links.sound.limits.lawful.small_tls)
no_link_fault l fault.ImageTooLarge object section entry links (resolved, (whole, kind, small, inl large)) =
    omega (arith, large, links.sound.limits.lawful.small_span)
no_link_fault l fault.ImageTooLarge object section entry links (resolved, (whole, kind, small, inr (inl crowded))) =
    omega (arith, crowded, links.sound.limits.few)
no_link_fault l fault.ImageTooLarge object section entry links (resolved, (whole, kind, small, inr (inr wordy))) =
    omega (arith, wordy, links.sound.limits.short)
no_link_fault l fault.NoTls (Some o) section entry links (resolved, (kind, limits, first)) =
    links.sound.storage.nowhere o section entry first.here
no_link_fault l fault.NoTls None section entry links (resolved, never) = never
no_link_fault l fault.Overflow (Some o) section entry links (resolved, (sound, here, before)) =
    links.fits o section entry here
no_link_fault l fault.Overflow None section entry links (resolved, never) = never

-- What each step of linking tells is a fault of the link.
use Rattle.std.proofs.Common.{◌≡◌, ◌<◌, ◌≤◌, ◌^◌, ◌↔◌, ℕ, Bool, true, false, IsTrue, Some, None, List, inl, inr, refl}
use Rattle.std.proofs.Common.{subst}
use Rattle.std.proofs.lemmas.Bool.{cases_lt}
use Rattle.link_faults.specs.declared.fault.LinkFault.{LinkFault}
use Rattle.link_faults.specs.declared.image_kind.ImageKind.{ImageKind}
use Rattle.link_faults.specs.declared.fault.LinkFault.TheVariants.{OutOfMemory, At}
use Rattle.link_faults.specs.declared.fault.LinkFaultKind.TheVariants as fault
use Rattle.link_needs.specs.Refusals.{FitsKind}
use Rattle.link_needs.specs.RefusalLaws.{IsStorageFault}
use Rattle.tls_layout.specs.Places.{tls_size}
use Rattle.tls_symbols.specs.Faults.{AreResolved}
use Rattle.link_needs.specs.Linking.{Linking, layout}
use Rattle.link_tables.specs.Faults.{FitsLimits, IsCrowded, IsLinkFault}
use Rattle.link_tables.specs.FaultLaws.{LacksStorage}

module _ (l : Linking) (resolved : AreResolved l.objects l.startup) where
  module _ (fits : FitsKind l.objects l.kind) where
    -- that of too many relocations or names
    pub limit_fault : tls_size (layout l).sections ≤ 2 ^ 20 → IsCrowded l
        → IsLinkFault l (At fault.ImageTooLarge None 0 0)
    limit_fault small large = (resolved, ((refl, refl, refl), fits, small, inr large))

    -- that of storage that the image does not have
    pub storage_fault : FitsLimits l → (told : LinkFault)
        → LacksStorage l.objects l.startup l.kind (tls_size (layout l).sections) told → IsLinkFault l told
    storage_fault limits OutOfMemory is = tt
    storage_fault limits (At fault.NoTls (Some o) s e) is = (resolved, (fits, limits, is))
    storage_fault limits (At kind object s e) is = absurd is

-- a fault of storage that is no want of memory
pub lacks : (objects : List (List ℕ)) (startup : List (List (List ℕ))) (kind : ImageKind) (size : ℕ) (told : LinkFault)
    → IsStorageFault objects startup kind size told → LacksStorage objects startup kind size told
lacks objects startup kind size OutOfMemory is = tt
lacks objects startup kind size (At told object s e) is = is

-- it is asked of the same objects
pub same_storage : (l : Linking) (objects : List (List ℕ)) (startup : List (List (List ℕ))) (size : ℕ)
    → objects ≡ l.objects → startup ≡ l.startup → size ≡ tls_size (layout l).sections → (told : LinkFault)
    → LacksStorage objects startup l.kind size told
    → LacksStorage l.objects l.startup l.kind (tls_size (layout l).sections) told
same_storage l objects startup size first beside room told is =
    let size = tls_size (layout l).sections in
    subst (λ xs. LacksStorage xs l.startup l.kind size told) first
    (subst (λ s. LacksStorage objects s l.kind size told) beside
    (subst (λ n. LacksStorage objects startup l.kind n told) room is))

-- ** limits

-- what a test says of a size that is above its limit, and of one that is not
pub exceeds : (size limit : ℕ) (fits : Bool) → fits ≡ false → IsTrue fits ↔ (size ≤ limit) → limit < size
exceeds size limit fits not_so test = elim (cases_lt limit size) [
  | inl more ↦ more
  | inr less ↦ let so : fits ≡ true = test.1 less in absurd (cc)
]

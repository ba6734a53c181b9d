-- Which refusal a name's search is about.
use Rattle.std.specs.Prelude.{◌&&◌, ℕ, Bool, false, ◌≡◌, ◌<◌, List, Some, length}
use Rattle.elf_object.specs.declared.noted.Traits.{Traits}
use Rattle.link_faults.specs.declared.image_kind.ImageKind.{ImageKind}
use Rattle.link_faults.specs.declared.fault.LinkFaultKind.TheVariants.{LocalExecInModule, NarrowInModule, NoTls}
use Rattle.link_faults.specs.ImageKinds.{is_module, is_moved}
use Rattle.link_faults.specs.declared.fault.LinkFault.{LinkFault}
use Rattle.link_faults.specs.declared.fault.LinkFault.TheVariants.{At}
use Rattle.tls_symbols.specs.Bindings.{object_at}
use Rattle.tls_symbols.specs.declared.uses.Use.{Use}
use Rattle.tls_symbols.specs.Faults.{Test, IsFirstCharged, NoneCharged, NamesWithin}
use Rattle.tls_symbols.specs.Searches.{Passes}
use Rattle.link_needs.specs.declared.charge.Charge.{Charge}
use Rattle.link_needs.specs.declared.charge.Charge.TheVariants.{ByType, ByStorage}
use Rattle.link_needs.specs.Refusals.{by_type, by_storage}

-- what a refusal reports: an address in 32 bits only if there is no offset from the thread pointer
abbrev pub IsKindFault : List (List ℕ) → ImageKind → LinkFault → Type 0
IsKindFault objects image (At LocalExecInModule (Some o) s e) =
    IsFirstCharged (by_type LocalExecInModule image) objects o s e
IsKindFault objects image (At NarrowInModule (Some o) s e) =
    NoneCharged (by_type LocalExecInModule image) objects
    × IsFirstCharged (by_type NarrowInModule image) objects o s e
IsKindFault objects image fault = ⊥

abbrev pub IsStorageFault : List (List ℕ) → List (List (List ℕ)) → ImageKind → ℕ → LinkFault → Type 0
IsStorageFault objects startup image size (At NoTls (Some o) s e) =
    IsFirstCharged (by_storage objects startup image size) objects o s e
IsStorageFault objects startup image size fault = ⊥

-- ** one question

-- the relocations that a question is about
abbrev pub test_of : Charge → Test
test_of (ByType fault image) = by_type fault image
test_of (ByStorage image bindings) = by_storage bindings.now.objects bindings.now.startup image 0

abbrev pub IsAbout : Charge → Use → Type 0
IsAbout charge u = Passes (test_of charge) u

-- the question is about these objects
abbrev pub IsAskedOf : List (List ℕ) → Charge → Type 0
IsAskedOf objects (ByType fault image) = Unit {0}
IsAskedOf objects (ByStorage image bindings) = bindings.now.objects ≡ objects

-- the question may be asked about a relocation: its symbol exists
abbrev pub IsAskedWithin : Charge → Use → Type 0
IsAskedWithin (ByType fault image) u = Unit {0}
IsAskedWithin (ByStorage image bindings) u =
    (u.place.object < length bindings.now.objects)
    × NamesWithin (object_at bindings.now.objects u.place.object) u.relocation

-- any object may be asked of, by what its relocations have among them
abbrev pub IsAskedIn : Charge → ℕ → List ℕ → Type 0
IsAskedIn charge o b = Unit {0}

abbrev pub asks_among : Charge → Traits → Bool
asks_among (ByType LocalExecInModule image) traits = traits.in_module && is_module image
asks_among (ByType NarrowInModule image) traits = traits.where_moved && is_moved image
asks_among (ByType fault image) traits = false
asks_among (ByStorage image bindings) traits = traits.reaches_storage

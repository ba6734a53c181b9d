-- Why objects can't be linked, and which fault is reported; the tables of a link as code has them.
use Rattle.std.specs.Prelude.{◌≡◌, ◌<◌, ◌≤◌, ◌^◌, ◌⊎◌, ℕ, Option, Some, None, IsNone, IsSomeAnd, false, length}
use Rattle.std.specs.Prelude.{slice_get}
use Rattle.elf_object.specs.declared.relocation.Relocation.{Relocation}
use Rattle.elf_object.specs.Lent.{relocation_target}
use Rattle.elf_object.specs.Object.{section_count}
use Rattle.dynamic_symbols.specs.Names.{name_size}
use Rattle.link_faults.specs.declared.fault.LinkFault.{LinkFault}
use Rattle.link_faults.specs.declared.fault.LinkFault.TheVariants.{OutOfMemory, At}
use Rattle.link_faults.specs.declared.fault.LinkFaultKind.TheVariants as fault
use Rattle.link_needs.specs.Refusals.{by_storage, by_type, FitsKind, FitsStorage}
use Rattle.elf_object.specs.Counts.{relocation_count}
use Rattle.tls_layout.specs.Places.{span, tls_size, IsLawful}
use Rattle.tls_symbols.specs.Faults.{held_in, AreResolved, Earlier, IsFirst, IsFirstCharged, NoneCharged}
use Rattle.link_needs.specs.Linking.{Linking, layout, object}
use Rattle.link_needs.specs.Values.{field, is_replaced}
use Rattle.link_tables.specs.Dynamic.{imports, own_symbols}

-- ** limits

-- more relocations than an image may have (2^19), or names that take more bytes than they may (2^22)
abbrev pub IsCrowded : Linking → Type 0
IsCrowded l = (2 ^ 19 < relocation_count l.objects) ⊎ (2 ^ 22 < name_size l.objects (own_symbols l) (imports l))

pub record FitsLimits (l : Linking) : Type 0 where
  pub lawful : IsLawful (layout l)
  pub few : relocation_count l.objects ≤ 2 ^ 19
  pub short : name_size l.objects (own_symbols l) (imports l) ≤ 2 ^ 22

-- ** fields

-- a relocation of section t of object o has a field that can't hold its value, and is not rewritten
abbrev pub IsOverflow : Linking → ℕ → ℕ → Relocation → Type 0
IsOverflow l o t r = (is_replaced l o r ≡ false) × IsNone (field l o t r)

-- entry e of section s of object o is such a relocation
abbrev pub Overflows : Linking → ℕ → ℕ → ℕ → Type 0
Overflows l o s e =
    (o < length l.objects) × (0 < s) × (s < section_count (object l o))
    × IsSomeAnd (slice_get (held_in (object l o) s) e) (IsOverflow l o (relocation_target (object l o) s))

-- ** the first fault

-- what must hold before fields are filled
pub record IsSound (l : Linking) : Type 0 where
  pub resolved : AreResolved l.objects l.startup
  pub kind : FitsKind l.objects l.kind
  pub limits : FitsLimits l
  pub storage : FitsStorage l.objects l.startup l.kind (tls_size (layout l).sections)

-- the objects can be linked
pub record Links (l : Linking) : Type 0 where
  pub sound : IsSound l
  pub fits : (o s e : ℕ) → Overflows l o s e → ⊥

-- a fault of the image as a whole names no object
abbrev pub IsOfWhole : Option ℕ → ℕ → ℕ → Type 0
IsOfWhole object s e = (object ≡ None) × (s ≡ 0) × (e ≡ 0)

-- a fault of an image whose names are resolved
abbrev pub IsLaterFault : Linking → LinkFault → Type 0
IsLaterFault l (At fault.LocalExecInModule (Some o) s e) =
    IsFirstCharged (by_type fault.LocalExecInModule l.kind) l.objects o s e
IsLaterFault l (At fault.NarrowInModule (Some o) s e) =
    NoneCharged (by_type fault.LocalExecInModule l.kind) l.objects
    × IsFirstCharged (by_type fault.NarrowInModule l.kind) l.objects o s e
IsLaterFault l (At fault.TlsTooLarge object s e) =
    IsOfWhole object s e × FitsKind l.objects l.kind × (2 ^ 20 < tls_size (layout l).sections)
IsLaterFault l (At fault.ImageTooLarge object s e) =
    IsOfWhole object s e × FitsKind l.objects l.kind × (tls_size (layout l).sections ≤ 2 ^ 20)
    × ((2 ^ 24 < span l.kind (layout l).sections) ⊎ IsCrowded l)
IsLaterFault l (At fault.NoTls (Some o) s e) =
    FitsKind l.objects l.kind × FitsLimits l
    × IsFirstCharged (by_storage l.objects l.startup l.kind (tls_size (layout l).sections)) l.objects o s e
IsLaterFault l (At fault.Overflow (Some o) s e) =
    IsSound l × Overflows l o s e × ((p t f : ℕ) → Earlier p t f o s e → Overflows l p t f → ⊥)
IsLaterFault l told = ⊥

-- a refusal reports the first fault: in the order of the kinds, and Overflow last; of OutOfMemory nothing is said
abbrev pub IsLinkFault : Linking → LinkFault → Type 0
IsLinkFault l OutOfMemory = Unit {0}
IsLinkFault l (At fault.Undefined (Some o) s e) = IsFirst l.objects l.startup fault.Undefined o s e
IsLinkFault l (At fault.Duplicate (Some o) s e) = IsFirst l.objects l.startup fault.Duplicate o s e
IsLinkFault l (At fault.NotTls (Some o) s e) = IsFirst l.objects l.startup fault.NotTls o s e
IsLinkFault l told = AreResolved l.objects l.startup × IsLaterFault l told

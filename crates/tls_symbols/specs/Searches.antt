-- The search for the first use that has a property.
use Rattle.std.specs.Prelude.{◌≡◌, ◌<◌, ℕ, true, List, Option, Some, None, length}
use Rattle.std.specs.List.{Contains}
use Rattle.elf_object.specs.Lawful.{IsLawful}
use Rattle.elf_object.specs.Lent.{relocations}
use Rattle.link_faults.specs.declared.place.Place.{Place}
use Rattle.tls_symbols.specs.declared.uses.Use.{Use}
use Rattle.tls_symbols.specs.Bindings.{object_at}
use Rattle.tls_symbols.specs.Faults.{Test}
use Rattle.tls_symbols.specs.Walks.{IsFirstUsed, IsUse, IsUsedAt, NoneBefore}

-- what may be asked about a relocation may be asked about each of the objects'
abbrev pub MayAsk : (Use → Type 0) → List (List ℕ) → Type 0
MayAsk may_ask objects = (u : Use) → IsUse objects u → may_ask u

-- what may be asked about an object may be asked about each
abbrev pub MayAskIn : (ℕ → List ℕ → Type 0) → List (List ℕ) → Type 0
MayAskIn P objects = (o : ℕ) → o < length objects → P o (object_at objects o)

-- the use is a relocation of object o, which has these bytes
pub record IsUseIn (o : ℕ) (b : List ℕ) (u : Use) : Type 0 where
  pub object : u.place.object ≡ o
  pub own : Contains (relocations b u.section) u.relocation
  pub lawful : IsLawful b u.section u.relocation

-- no relocation of the object has the property
abbrev pub NoneIn : (Use → Type 0) → ℕ → List ℕ → Type 0
NoneIn P o b = (u : Use) → IsUseIn o b u → P u → ⊥

abbrev pub NoneUsed : (Use → Type 0) → List (List ℕ) → Type 0
NoneUsed P objects = (o s e : ℕ) → IsUsedAt P objects o s e → ⊥

-- what is found: the first of all, or none before section s of object o
abbrev pub IsFoundUpTo : (Use → Type 0) → List (List ℕ) → ℕ → ℕ → Option Place → Type 0
IsFoundUpTo P objects o s None = NoneBefore P objects o s 0
IsFoundUpTo P objects o s (Some place) = IsFirstUsed P objects place.object place.section place.entry

-- the use passes a test
abbrev pub Passes : Test → Use → Type 0
Passes test u = test u.place.object u.relocation ≡ true

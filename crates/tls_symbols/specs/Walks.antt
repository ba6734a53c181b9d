-- The uses of relocations of objects, and the first that has a property.
use Rattle.std.specs.Prelude.{◌<◌, ℕ, List, length, slice_get, IsSomeAnd}
use Rattle.std.specs.List.{Contains}
use Rattle.elf_object.specs.declared.relocation.Relocation.{Relocation}
use Rattle.elf_object.specs.Lawful.{IsLawful}
use Rattle.elf_object.specs.Lent.{relocation_target, relocations}
use Rattle.elf_object.specs.Object.{section_count}
use Rattle.tls_symbols.specs.declared.uses.Use.{Use}
use Rattle.tls_symbols.specs.Bindings.{object_at}
use Rattle.tls_symbols.specs.Faults.{held_in, Earlier}

-- the use is a relocation of the objects
pub record IsUse (objects : List (List ℕ)) (u : Use) : Type 0 where
  pub object : u.place.object < length objects
  pub own : Contains (relocations (object_at objects u.place.object) u.section) u.relocation
  pub lawful : IsLawful (object_at objects u.place.object) u.section u.relocation

-- entry e of section s of object o, which applies to section t
abbrev pub use_at : ℕ → ℕ → ℕ → ℕ → Relocation → Use
use_at o s t e r = record { place = record { object = o; section = s; entry = e }; section = t; relocation = r }

-- entry e of section s of object o is a use with the property
abbrev pub IsUsedAt : (Use → Type 0) → List (List ℕ) → ℕ → ℕ → ℕ → Type 0
IsUsedAt P objects o s e =
    (o < length objects) × (0 < s) × (s < section_count (object_at objects o))
    × IsSomeAnd (slice_get (held_in (object_at objects o) s) e)
    (λ r. P (use_at o s (relocation_target (object_at objects o) s) e r))

-- no use at an earlier place has it
abbrev pub NoneBefore : (Use → Type 0) → List (List ℕ) → ℕ → ℕ → ℕ → Type 0
NoneBefore P objects o s e = (p t f : ℕ) → Earlier p t f o s e → IsUsedAt P objects p t f → ⊥

abbrev pub IsFirstUsed : (Use → Type 0) → List (List ℕ) → ℕ → ℕ → ℕ → Type 0
IsFirstUsed P objects o s e = IsUsedAt P objects o s e × NoneBefore P objects o s e

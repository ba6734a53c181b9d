-- The laws: what a symbol is bound to is the only answer, and Undefined stands exactly where there is none.
use Rattle.std.specs.Prelude.{◌≡◌, ◌≢◌, ◌↔◌, ◌<◌, ℕ, List, Option, Some, length, map, slice_get}
use Rattle.elf_records.specs.RelocationRows.{may_import}
use Rattle.elf_records.specs.Relocations.{relocation_kind}
use Rattle.elf_object.specs.declared.relocation.Relocation.{Relocation}
use Rattle.elf_object.specs.Lent.{relocation_target, relocations}
use Rattle.elf_object.specs.Object.{section_count}
use Rattle.link_faults.specs.declared.binding.Binding.{Binding}
use Rattle.link_faults.specs.declared.fault.LinkFaultKind.TheVariants.{Undefined}
use Rattle.tls_symbols.specs.Bindings.{bound_to, exported_names}
use Rattle.tls_symbols.specs.Faults.{Stands}
use Rattle.binding_laws.specs.Bound.{Asked, IsAnswer, IsBound, bytes_of}

-- `bound_to` is the only answer
abbrev pub BindingsAreOnly : Type 0
BindingsAreOnly = (q : Asked) (answer : Option Binding)
    → (bound_to q.objects (map exported_names q.images) q.o q.e (may_import q.kind) ≡ answer) ↔ IsAnswer q answer

-- what is asked of a relocation of object o
abbrev pub asked : List (List ℕ) → List (List (List ℕ)) → ℕ → Relocation → Asked
asked objects images o r = record { objects = objects; images = images; kind = r.kind; o = o; e = r.symbol }

-- the relocations that section s of an object holds, which apply to another
abbrev pub listed_in : List ℕ → ℕ → List Relocation
listed_in b s = relocations b (relocation_target b s)

-- entry e of section s of object o is a kept relocation, not of type NONE, that is bound to nothing
pub record IsUnbound (objects : List (List ℕ)) (images : List (List (List ℕ))) (o s e : ℕ) : Type 0 where
  pub object : o < length objects
  pub reserved : 0 < s
  pub section : s < section_count (bytes_of objects o)
  -- the section that they apply to is one that linking keeps
  pub kept : 0 < relocation_target (bytes_of objects o) s
  pub relocation : Relocation
  pub listed : slice_get (listed_in (bytes_of objects o) s) e ≡ Some relocation
  pub named : relocation_kind 0 ≢ Some relocation.kind
  pub unbound : (bound : Binding) → IsBound (asked objects images o relocation) bound → ⊥

-- the fault Undefined stands exactly there
abbrev pub UnboundIsUndefined : Type 0
UnboundIsUndefined = (objects : List (List ℕ)) (images : List (List (List ℕ))) (o s e : ℕ)
    → Stands Undefined objects (map exported_names images) o s e ↔ IsUnbound objects images o s e

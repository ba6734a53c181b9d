-- What a relocation's symbol is bound to, as a relation (gABI, edition 4.1 with the draft of 2013, "Symbol Table";
-- Drepper, "ELF Handling For Thread-Local Storage", version 0.21, section 4). It watches `definition_of`,
-- `exported_names`, `first_export`, `bound_to` and `may_import` (tls_symbols, elf_records).
use Rattle.std.specs.Prelude.{◌≡◌, ◌≢◌, ◌<◌, ◌≤◌, ◌-◌, ◌⊎◌, ℕ, true, List, [], Option, Some, None, codes, length}
use Rattle.std.specs.Prelude.{slice_index_or}
use Rattle.elf_records.specs.declared.relocation.RelocationKind.{RelocationKind}
use Rattle.elf_records.specs.declared.symbol.SymbolBinding.{SymbolBinding}
use Rattle.elf_records.specs.declared.symbol.SymbolBinding.TheVariants.{Local, Global, Weak}
use Rattle.elf_records.specs.declared.symbol.Visibility.TheVariants.{Default, Protected}
use Rattle.elf_records.specs.Relocations.{relocation_kind}
use Rattle.elf_object.specs.declared.symbol.SymbolPlace.TheVariants.{Undefined}
use Rattle.elf_object.specs.Lent.{symbol_binding, symbol_name, symbol_place, symbol_visibility}
use Rattle.elf_object.specs.Parts.{symbol_count}
use Rattle.link_faults.specs.declared.binding.Binding.{Binding}
use Rattle.link_faults.specs.declared.binding.Binding.TheVariants.{Here, Startup, Runtime}
use Rattle.link_faults.specs.declared.symbol_ref.SymbolRef.{SymbolRef}
use Rattle.tls_symbols.specs.Bindings.{is_tls_symbol}

-- ** in one image

-- the bytes of an object
abbrev pub bytes_of : List (List ℕ) → ℕ → List ℕ
bytes_of objects o = slice_index_or objects o []

-- the symbol defines the name, with this binding; entry 0 of a symbol table is reserved
pub record Defines (objects : List (List ℕ)) (binding : SymbolBinding) (name : List ℕ) (x : SymbolRef) : Type 0 where
  pub object : x.object < length objects
  pub reserved : 0 < x.symbol
  pub symbol : x.symbol < symbol_count (bytes_of objects x.object)
  pub bound : symbol_binding (bytes_of objects x.object) x.symbol ≡ binding
  pub defined : symbol_place (bytes_of objects x.object) x.symbol ≢ Undefined
  pub named : symbol_name (bytes_of objects x.object) x.symbol ≡ name

-- x comes before y: in an earlier object, or earlier in the symbol table of one
abbrev pub IsBefore : SymbolRef → SymbolRef → Type 0
IsBefore x y = (x.object < y.object) ⊎ ((x.object ≡ y.object) × (x.symbol < y.symbol))

-- x is one, and each other comes later
pub record IsFirst (P : SymbolRef → Type 0) (x : SymbolRef) : Type 0 where
  pub holds : P x
  pub others : (y : SymbolRef) → P y → (y ≡ x) ⊎ IsBefore x y

-- there is none
abbrev pub IsEmpty : (SymbolRef → Type 0) → Type 0
IsEmpty P = (y : SymbolRef) → P y → ⊥

-- the definition of a name: the first strong one, or the first weak one if there is no strong one
abbrev pub IsDefinition : List (List ℕ) → List ℕ → SymbolRef → Type 0
IsDefinition objects name x =
    IsFirst (Defines objects Global name) x
    ⊎ (IsEmpty (Defines objects Global name) × IsFirst (Defines objects Weak name) x)

-- ** in other images

-- an image exports the name: its definition there is thread-local, and other images see it
pub record Exports (objects : List (List ℕ)) (name : List ℕ) : Type 0 where
  pub found : SymbolRef
  pub definition : IsDefinition objects name found
  pub tls : is_tls_symbol (bytes_of objects found.object) found.symbol ≡ true
  pub seen : (symbol_visibility (bytes_of objects found.object) found.symbol ≡ Default)
      ⊎ (symbol_visibility (bytes_of objects found.object) found.symbol ≡ Protected)

-- the objects of a startup image; image 1 is the program
abbrev pub image : List (List (List ℕ)) → ℕ → List (List ℕ)
image images k = slice_index_or images (k - 1) []

-- image k is the first that exports the name
pub record IsImport (images : List (List (List ℕ))) (name : List ℕ) (k : ℕ) : Type 0 where
  pub counted : 1 ≤ k
  pub listed : k ≤ length images
  pub exports : Exports (image images k) name
  pub first : (j : ℕ) → 1 ≤ j → j < k → Exports (image images j) name → ⊥

-- R_X86_64_TLSGD, R_X86_64_GOTTPOFF, R_X86_64_GOTPC32_TLSDESC and R_X86_64_TLSDESC_CALL may name another image's
-- variable: the loader fills in what they need (sections 4.1 and 4.3; for descriptors, psABI, "Thread-Local Storage")
abbrev pub MayBeElsewhere : RelocationKind → Type 0
MayBeElsewhere kind =
    (relocation_kind 19 ≡ Some kind) ⊎ (relocation_kind 22 ≡ Some kind)
    ⊎ (relocation_kind 34 ≡ Some kind) ⊎ (relocation_kind 35 ≡ Some kind)

-- ** what a symbol is bound to

-- for a relocation of this type, and symbol e of object o of an image that is linked beside these startup images
pub record Asked : Type 0 where
  pub objects : List (List ℕ)
  pub images : List (List (List ℕ))
  pub kind : RelocationKind
  pub o : ℕ
  pub e : ℕ

abbrev pub name_of : Asked → List ℕ
name_of q = symbol_name (bytes_of q.objects q.o) q.e

abbrev pub IsLocal : Asked → Type 0
IsLocal q = symbol_binding (bytes_of q.objects q.o) q.e ≡ Local

-- the function of the run time, which no object defines (Drepper, section 3.4.2)
abbrev pub IsRunTimes : Asked → Type 0
IsRunTimes q = name_of q ≡ codes "__tls_get_addr"

-- it is bound by its name, and not to the run time
abbrev pub IsOrdinary : Asked → Type 0
IsOrdinary q = (IsLocal q → ⊥) × (IsRunTimes q → ⊥)

abbrev pub IsBound : Asked → Binding → Type 0
IsBound q Runtime = (IsLocal q → ⊥) × IsRunTimes q
IsBound q (Here x) =
    (IsLocal q × (x ≡ record { object = q.o; symbol = q.e }))
    ⊎ (IsOrdinary q × IsDefinition q.objects (name_of q) x)
IsBound q (Startup k) =
    IsOrdinary q × IsEmpty (IsDefinition q.objects (name_of q)) × MayBeElsewhere q.kind
    × IsImport q.images (name_of q) k

-- it is bound to this, or to nothing
abbrev pub IsAnswer : Asked → Option Binding → Type 0
IsAnswer q (Some bound) = IsBound q bound
IsAnswer q None = (bound : Binding) → IsBound q bound → ⊥

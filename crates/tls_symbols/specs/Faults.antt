-- Faults of the names of an image: what each kind means, and which fault is the first.
use Rattle.std.specs.Prelude.{◌≡◌, ◌≢◌, ◌<◌, ◌⊎◌, ◌&&◌, ◌||◌, ℕ, Bool, true, false, not, List, [], Option, Some, None}
use Rattle.std.specs.Prelude.{is_none, length, slice_get, IsSomeAnd}
use Rattle.std.specs.Str.{bytes_eq}
use Rattle.elf_records.specs.declared.relocation.RelocationKind.{RelocationKind}
use Rattle.elf_records.specs.declared.relocation.RelocationKind.TheVariants.{Nothing}
pub use Rattle.elf_records.specs.RelocationRows.{is_tls_kind, names_symbol}
use Rattle.elf_object.specs.declared.relocation.Relocation.{Relocation}
use Rattle.elf_records.specs.declared.symbol.SymbolBinding.TheVariants.{Local, Global}
use Rattle.elf_object.specs.Lent.{relocations, relocation_target, symbol_binding, symbol_name, symbol_place}
use Rattle.elf_object.specs.Object.{section_count}
use Rattle.elf_object.specs.Parts.{symbol_count, symbol_table}
use Rattle.object_faults.specs.Firsts.{nonzero}
use Rattle.link_faults.specs.declared.fault.LinkFault.{LinkFault}
use Rattle.link_faults.specs.declared.fault.LinkFault.TheVariants.{OutOfMemory, At}
use Rattle.link_faults.specs.declared.fault.LinkFaultKind.{LinkFaultKind}
use Rattle.link_faults.specs.declared.fault.LinkFaultKind.TheVariants.{Undefined, Duplicate, NotTls}
use Rattle.link_faults.specs.declared.binding.Binding.{Binding}
use Rattle.tls_symbols.specs.Definitions.{definition_of, is_defined, same_binding}
use Rattle.tls_symbols.specs.Bindings.{binding_of, is_symbol, is_tls_binding, object_at}
use Rattle.elf_records.specs.Symbols.{get_address}

-- ** the faults of a relocation

abbrev pub differ : Bool → Bool → Bool
differ true other = not other
differ false other = other

-- whether a relocation of this type may not be bound to this: one of the two is thread-local, and the other isn't
abbrev pub is_mismatched : List (List ℕ) → RelocationKind → Option Binding → Bool
is_mismatched objects kind None = false
is_mismatched objects kind (Some binding) = differ (is_tls_kind kind) (is_tls_binding objects binding)

-- whether a relocation of object o has this fault: it has no binding, or one that does not suit it
abbrev pub is_faulty : LinkFaultKind → List (List ℕ) → List (List (List ℕ)) → ℕ → Relocation → Bool
is_faulty Undefined objects startup o r = names_symbol r.kind && is_none (binding_of objects startup o r)
is_faulty NotTls objects startup o r =
    names_symbol r.kind && is_mismatched objects r.kind (binding_of objects startup o r)
is_faulty kind objects startup o r = false

-- ** the faults of a symbol

-- whether symbol e of object o is a second GLOBAL definition: its name binds to another symbol
abbrev pub is_second : List (List ℕ) → ℕ → List ℕ → ℕ → Bool
is_second objects o b e =
    (same_binding Global (symbol_binding b e) && is_defined (symbol_place b e))
    && not (is_symbol (definition_of objects (symbol_name b e)) o e)

-- whether it defines the function of the run time for other objects
abbrev pub takes_run_time : List ℕ → ℕ → Bool
takes_run_time b e =
    (not (same_binding Local (symbol_binding b e)) && is_defined (symbol_place b e))
    && bytes_eq (symbol_name b e) get_address

abbrev pub is_duplicate : List (List ℕ) → ℕ → List ℕ → ℕ → Bool
is_duplicate objects o b e = is_second objects o b e || takes_run_time b e

-- ** the first fault

-- the relocations that section s of an object holds, if linking keeps the section that they apply to
abbrev pub held_for : List ℕ → Option ℕ → List Relocation
held_for b (Some t) = relocations b t
held_for b None = []

unfoldable pub held_in : List ℕ → ℕ → List Relocation
held_in b s = held_for b (nonzero (relocation_target b s))

-- a test of relocations, with the number of their object
abbrev pub Test : Type 0
Test = ℕ → Relocation → Bool

-- a relocation names a symbol of its object, or none
abbrev pub NamesWithin : List ℕ → Relocation → Type 0
NamesWithin b r = r.kind ≢ Nothing → r.symbol < symbol_count b

-- entry e of section s of object o is a relocation that passes the test
abbrev pub IsChargedAt : Test → List (List ℕ) → ℕ → ℕ → ℕ → Type 0
IsChargedAt test objects o s e =
    (o < length objects) × (0 < s) × (s < section_count (object_at objects o))
    × IsSomeAnd (slice_get (held_in (object_at objects o) s) e) (λ r. test o r ≡ true)

-- symbol e of object o, in the symbol table s, is a duplicate
abbrev pub IsDuplicateAt : List (List ℕ) → ℕ → ℕ → ℕ → Type 0
IsDuplicateAt objects o s e =
    let b = object_at objects o in
    (o < length objects) × (s ≡ symbol_table b) × (0 < e) × (e < symbol_count b) × (is_duplicate objects o b e ≡ true)

-- there is a fault of this kind at entry e of section s of object o
unfoldable pub Stands : LinkFaultKind → List (List ℕ) → List (List (List ℕ)) → ℕ → ℕ → ℕ → Type 0
Stands Undefined objects startup o s e = IsChargedAt (is_faulty Undefined objects startup) objects o s e
Stands Duplicate objects startup o s e = IsDuplicateAt objects o s e
Stands NotTls objects startup o s e = IsChargedAt (is_faulty NotTls objects startup) objects o s e
Stands kind objects startup o s e = ⊥

-- the order of the kinds of faults that names can have
abbrev pub number : LinkFaultKind → ℕ
number Undefined = 0
number Duplicate = 1
number NotTls = 2
number kind = 3

-- one place comes before another: by object, then by section, then by entry
abbrev pub Earlier : ℕ → ℕ → ℕ → ℕ → ℕ → ℕ → Type 0
Earlier p t f o s e = (p < o) ⊎ ((p ≡ o) × ((t < s) ⊎ ((t ≡ s) × (f < e))))

-- the first relocation that passes the test: none at an earlier object, section or entry does
pub record IsFirstCharged (test : Test) (objects : List (List ℕ)) (o s e : ℕ) : Type 0 where
  pub here : IsChargedAt test objects o s e
  pub nowhere_earlier : (p t f : ℕ) → Earlier p t f o s e → IsChargedAt test objects p t f → ⊥

-- no symbol is a duplicate; or the first that is one
abbrev pub NoDuplicate : List (List ℕ) → Type 0
NoDuplicate objects = (o s e : ℕ) → IsDuplicateAt objects o s e → ⊥

abbrev pub IsFirstDuplicate : List (List ℕ) → ℕ → ℕ → ℕ → Type 0
IsFirstDuplicate objects o s e =
    IsDuplicateAt objects o s e × ((p t f : ℕ) → Earlier p t f o s e → IsDuplicateAt objects p t f → ⊥)

-- no relocation passes the test
pub record NoneCharged (test : Test) (objects : List (List ℕ)) : Type 0 where
  pub nowhere : (o s e : ℕ) → IsChargedAt test objects o s e → ⊥

-- there is no fault of this kind
abbrev pub Nowhere : LinkFaultKind → List (List ℕ) → List (List (List ℕ)) → Type 0
Nowhere kind objects startup = (o s e : ℕ) → Stands kind objects startup o s e → ⊥

-- there is no fault of the first n kinds
abbrev pub NoneBelow : ℕ → List (List ℕ) → List (List (List ℕ)) → Type 0
NoneBelow n objects startup = (kind : LinkFaultKind) → number kind < n → Nowhere kind objects startup

-- the names have no fault
abbrev pub AreResolved : List (List ℕ) → List (List (List ℕ)) → Type 0
AreResolved objects startup = NoneBelow 3 objects startup

-- the first fault: there is none of its kind at an earlier place, and none of an earlier kind
pub record IsFirst (objects : List (List ℕ)) (startup : List (List (List ℕ))) (kind : LinkFaultKind)
    (o s e : ℕ) : Type 0 where
  pub known : number kind < 3
  pub here : Stands kind objects startup o s e
  pub nowhere_earlier : (p t f : ℕ) → Earlier p t f o s e → Stands kind objects startup p t f → ⊥
  pub earlier_kinds : NoneBelow (number kind) objects startup

-- a refusal reports the first fault, which is never one of the image as a whole; of OutOfMemory nothing is said
abbrev pub IsFault : List (List ℕ) → List (List (List ℕ)) → LinkFault → Type 0
IsFault objects startup OutOfMemory = Unit {0}
IsFault objects startup (At kind (Some o) s e) = IsFirst objects startup kind o s e
IsFault objects startup (At kind None s e) = ⊥

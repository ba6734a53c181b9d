-- What holds of a link's parts before its faults are looked for.
use Rattle.std.specs.Prelude.{◌≡◌, ℕ, List, Option, Some, None}
use Rattle.std.specs.Prelude.{map}
use Rattle.std.specs.List.{All}
use Rattle.elf_object.specs.declared.relocation.Relocation.{Relocation}
use Rattle.link_faults.specs.declared.fault.LinkFault.{LinkFault}
use Rattle.link_faults.specs.declared.fault.LinkFault.TheVariants.{OutOfMemory, At}
use Rattle.link_faults.specs.declared.fault.LinkFaultKind.TheVariants as fault
use Rattle.link_needs.specs.RefusalLaws.{IsStorageFault}
use Rattle.link_faults.specs.declared.image_kind.ImageKind.{ImageKind}
use Rattle.link_faults.specs.declared.symbol_ref.SymbolRef.{SymbolRef}
use Rattle.tls_symbols.specs.Definitions.{IsWithin}
use Rattle.tls_symbols.specs.Faults.{Earlier}
use Rattle.link_needs.specs.Given.{IsGiven}
use Rattle.link_needs.specs.Linking.{Linking}
use Rattle.link_tables.specs.Dynamic.{imports, own_symbols}
use Rattle.image_file.specs.declared.symbol.ImageSymbol.{ImageSymbol}
use Rattle.image_writer.specs.declared.draft.NamedSymbol.{NamedSymbol}
use Rattle.link_tables.specs.Faults.{FitsLimits, IsOverflow, Overflows}

-- it has no field, or one that holds its value
abbrev pub IsFilled : Linking → ℕ → ℕ → Relocation → Type 0
IsFilled l o t r = IsOverflow l o t r → ⊥

-- the fault is the first such relocation
abbrev pub IsFirstOverflow : Linking → LinkFault → Type 0
IsFirstOverflow l (At fault.Overflow (Some o) s e) =
    Overflows l o s e × ((p t f : ℕ) → Earlier p t f o s e → Overflows l p t f → ⊥)
IsFirstOverflow l told = ⊥

-- the first field that can't hold its value; none if each holds it
abbrev pub IsToldOverflow : Linking → Option LinkFault → Type 0
IsToldOverflow l None = (o s e : ℕ) → Overflows l o s e → ⊥
IsToldOverflow l (Some told) = IsFirstOverflow l told

-- ** storage

-- the fault of an image that asks for thread-local storage and finds none; of OutOfMemory nothing is said
abbrev pub LacksStorage : List (List ℕ) → List (List (List ℕ)) → ImageKind → ℕ → LinkFault → Type 0
LacksStorage objects startup kind size OutOfMemory = Unit {0}
LacksStorage objects startup kind size told = IsStorageFault objects startup kind size told

-- ** what the linker keeps

-- the symbols that the link defines and the names that it imports, all within the limits
pub record ArePrepared (l : Linking) (own : List SymbolRef) (names : List (List ℕ)) : Type 0 where
  pub given : IsGiven l
  pub limits : FitsLimits l
  pub own_are : own ≡ own_symbols l
  pub within : All (IsWithin l.objects) own
  pub imports_are : names ≡ imports l

-- symbols with their names, as code holds them
abbrev pub symbols_in : List NamedSymbol → List ImageSymbol
symbols_in all = map (λ (s : NamedSymbol). s.symbol) all

abbrev pub names_in : List NamedSymbol → List (List ℕ)
names_in all = map (λ (s : NamedSymbol). s.name.now) all

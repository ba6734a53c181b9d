-- The laws of dynamic symbols.
use Rattle.std.specs.Prelude.{◌≡◌, ◌≢◌, ◌≤◌, ℕ, true, false, List, None, map}
use Rattle.std.specs.List.{All, AllPairs}
use Rattle.elf_object.specs.declared.relocation.Relocation.{Relocation}
use Rattle.elf_records.specs.declared.symbol.SymbolBinding.TheVariants.{Local}
use Rattle.elf_object.specs.Faults.{IsObject}
use Rattle.elf_object.specs.Lent.{symbol_binding, symbol_place}
use Rattle.sequence_forms.specs.declared.places.Site.{Site}
use Rattle.sequence_match.specs.Faults.{AreSites}
use Rattle.link_faults.specs.declared.symbol_ref.SymbolRef.{SymbolRef}
use Rattle.tls_symbols.specs.Bindings.{binding_of, object_at}
use Rattle.elf_records.specs.Symbols.{get_address}
use Rattle.tls_symbols.specs.Definitions.{definition_of, is_defined, same_binding, IsWithin}
use Rattle.dynamic_symbols.specs.Names.{defined_names, defined_symbols, imports, name_of}
use Rattle.sequence_match.specs.Sites.{HaveSymbols}

-- the symbol is in the objects and defines a name that other objects see
pub record IsShared (objects : List (List ℕ)) (found : SymbolRef) : Type 0 where
  pub within : IsWithin objects found
  pub above : 1 ≤ found.symbol
  pub shared : same_binding Local (symbol_binding (object_at objects found.object) found.symbol) ≡ false
  pub defined : is_defined (symbol_place (object_at objects found.object) found.symbol) ≡ true

-- every defined symbol is in the objects, and is neither LOCAL nor undefined
abbrev pub SymbolsAreShared : Type 0
SymbolsAreShared = (objects : List (List ℕ)) → All (IsShared objects) (defined_symbols objects)

-- the names of the defined symbols are the defined names, in their order
abbrev pub SymbolsHaveTheNames : Type 0
SymbolsHaveTheNames = (objects : List (List ℕ))
    → map (name_of objects) (defined_symbols objects) ≡ defined_names objects

-- no two defined symbols have one name
abbrev pub NamesAreDistinct : Type 0
NamesAreDistinct = (objects : List (List ℕ)) → AllPairs (λ x y. x ≢ y) (map (name_of objects) (defined_symbols objects))

-- no two imports are the same
abbrev pub ImportsAreDistinct : Type 0
ImportsAreDistinct = (objects : List (List ℕ)) (startup : List (List (List ℕ))) (sites : List (List Site))
    → AllPairs (λ x y. x ≢ y) (imports objects startup sites)

-- the image does not define the name, and it is not `__tls_get_addr`
pub record IsForeign (objects : List (List ℕ)) (name : List ℕ) : Type 0 where
  pub undefined : definition_of objects name ≡ None
  pub named : name ≢ get_address

abbrev pub ImportsAreForeign : Type 0
ImportsAreForeign = (objects : List (List ℕ)) (startup : List (List (List ℕ))) (sites : List (List Site))
    → All (IsForeign objects) (imports objects startup sites)

-- what a relocation's symbol is bound to depends on the relocation's type and symbol alone
abbrev pub BindingsAreByUse : Type 0
BindingsAreByUse = (objects : List (List ℕ)) (startup : List (List (List ℕ))) (o : ℕ) (x y : Relocation)
    → x.kind ≡ y.kind → x.symbol ≡ y.symbol → binding_of objects startup o x ≡ binding_of objects startup o y

-- each site of an object uses a symbol of that object
abbrev pub SitesHaveSymbols : Type 0
SitesHaveSymbols = (b : List ℕ) (sites : List Site) → IsObject b → AreSites b sites → HaveSymbols b sites

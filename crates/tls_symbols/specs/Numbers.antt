-- Names and their numbers, and what a table by these numbers says about each name.
use Rattle.std.specs.Prelude.{◌≡◌, ◌<◌, ℕ, true, false, List, [], Option, Some, None, length, map, slice_index}
use Rattle.std.specs.Prelude.{slice_index_or, slice_set, MatchOption, if◌then◌else◌}
use Rattle.std.specs.Borrow.{Bor}
use Rattle.std.specs.Global.{Vec}
use Rattle.std.specs.List.{position_or_len, list_any}
use Rattle.std.specs.Option.{option_or}
use Rattle.std.specs.Str.{bytes_eq}
use Rattle.elf_records.specs.declared.symbol.SymbolBinding.{SymbolBinding}
use Rattle.elf_records.specs.declared.symbol.SymbolBinding.TheVariants.{Local, Global, Weak}
use Rattle.elf_object.specs.Lent.{symbol_binding, symbol_name}
use Rattle.elf_object.specs.Parts.{symbol_count}
use Rattle.tls_symbols.specs.declared.numbers.KnownSymbol.{KnownSymbol}
use Rattle.link_faults.specs.declared.symbol_ref.SymbolRef.{SymbolRef}
use Rattle.tls_symbols.specs.Definitions.{first_from, same_binding, first_in, found_or}
use Rattle.tls_symbols.specs.Bindings.{first_export, is_tls_symbol, object_at}
use Rattle.elf_records.specs.Symbols.{get_address}

-- names that are borrowed
abbrev pub Names : Type 0
Names = List (Bor (List ℕ))

-- the number of a name: the index of the first that is equal, or the number of names if there is none
abbrev pub number_of : Names → List ℕ → ℕ
number_of names name = position_or_len (λ k. bytes_eq name k.now) names

-- the name is among the names, under this number
pub record IsNumberOf (names : Names) (name : List ℕ) (n : ℕ) : Type 0 where
  pub number : n ≡ number_of names name
  pub within : n < length names

-- a longer list, in which each name keeps its number
pub record Grows (old new : Names) : Type 0 where
  pub keeps : (name : List ℕ) (n : ℕ) → IsNumberOf old name n → IsNumberOf new name n

-- symbol e has the number of its name, or none if it is LOCAL
abbrev pub IsNamed : Names → List ℕ → ℕ → Option ℕ → Type 0
IsNamed names b e number =
    MatchOption number (same_binding Local (symbol_binding b e) ≡ true)
    (λ n. (same_binding Local (symbol_binding b e) ≡ false) × IsNumberOf names (symbol_name b e) n)

-- what is kept of symbol e: the number of its name, and whether it is thread-local
pub record IsNumbered (names : Names) (b : List ℕ) (e : ℕ) (known : KnownSymbol) : Type 0 where
  pub name : IsNamed names b e known.name
  pub is_tls : known.is_tls ≡ is_tls_symbol b e

-- likewise for each symbol of an object
pub record AreNumbered (names : Names) (b : List ℕ) (known : List KnownSymbol) : Type 0 where
  pub len : length known ≡ symbol_count b
  pub each : (e : ℕ) (d : KnownSymbol) → e < symbol_count b → IsNumbered names b e (slice_index_or known e d)

-- likewise for each symbol of each object
pub record AllNumbered (names : Names) (objects : List (List ℕ)) (numbers : List (List KnownSymbol)) : Type 0 where
  pub len : length numbers ≡ length objects
  pub each : (o : ℕ) → o < length objects → AreNumbered names (object_at objects o) (slice_index_or numbers o [])

-- each name of a list has its number
pub record AreListed (names : Names) (listed : List (List ℕ)) (numbers : List ℕ) : Type 0 where
  pub len : length numbers ≡ length listed
  pub each : (j : ℕ) → j < length listed → IsNumberOf names (slice_index_or listed j []) (slice_index numbers j)

-- likewise for each list
pub record AllListed (names : Names) (lists : List (List (List ℕ))) (numbers : List (List ℕ)) : Type 0 where
  pub len : length numbers ≡ length lists
  pub each : (k : ℕ) → k < length lists → AreListed names (slice_index_or lists k []) (slice_index_or numbers k [])

-- what a table has at a number; nothing after its end
abbrev pub at_number : {X : Type 0} → List (Option X) → ℕ → Option X
at_number table n = slice_index_or table n None

-- the table with an entry at this number, unless it has one there
abbrev pub with_first : {X : Type 0} → List (Option X) → ℕ → X → List (Option X)
with_first table n x = slice_set table n (option_or (at_number table n) (Some x))

-- what a table says about a name
abbrev pub told : {X : Type 0} → Names → List (Option X) → List ℕ → Option X
told names table name = at_number table (number_of names name)

-- a table of the first definition of each name, with this binding
pub record TellsDefinitions (names : Names) (binding : SymbolBinding) (objects : List (List ℕ))
    (table : List (Option SymbolRef)) : Type 0 where
  pub len : length table ≡ length names
  pub tells : (name : List ℕ) → told names table name ≡ first_from binding name 0 objects

-- a table of the first startup image that exports each name
pub record TellsExports (names : Names) (startup : List (List (List ℕ))) (table : List (Option ℕ)) : Type 0 where
  pub len : length table ≡ length names
  pub tells : (name : List ℕ) → told names table name ≡ first_export name 1 startup

-- all that is kept of the names of an image
pub record KnowsNames (objects : List (List ℕ)) (startup : List (List (List ℕ))) (names : Names)
    (numbers : List (List KnownSymbol)) (strong weak : List (Option SymbolRef))
    (imported : List (Option ℕ)) : Type 0 where
  -- number 0 is the function of the run time
  pub run_time : IsNumberOf names get_address 0
  pub numbered : AllNumbered names objects numbers
  pub strongly : TellsDefinitions names Global objects strong
  pub weakly : TellsDefinitions names Weak objects weak
  pub exports : TellsExports names startup imported

-- the list at an index, in a list of lists
abbrev pub own_numbers : {X : Type 0} → List (Vec X) → ℕ → List X
own_numbers numbers index = slice_index_or (map (λ own. own.items) numbers) index []

-- ** how a table is filled, step by step

-- image k, if it exports the name
abbrev pub export_in : ℕ → List ℕ → List (List ℕ) → Option ℕ
export_in k name names = if list_any (bytes_eq name) names then Some k else None

-- the first definitions of object o were entered, for names that had none
pub record NotesDefinitions (names : Names) (binding : SymbolBinding) (o : ℕ) (b : List ℕ)
    (old new : List (Option SymbolRef)) : Type 0 where
  pub notes : (name : List ℕ)
      → told names new name ≡ option_or (told names old name) (found_or o (first_in binding name b) None)

-- the exports of image k were entered, for names that had none
pub record NotesExports (names : Names) (k : ℕ) (exported : List (List ℕ)) (old new : List (Option ℕ)) : Type 0 where
  pub notes : (name : List ℕ) → told names new name ≡ option_or (told names old name) (export_in k name exported)

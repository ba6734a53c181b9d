-- The symbols that an image may export, and tables by the numbers of their names alone.
use Rattle.std.specs.Prelude.{◌≡◌, ◌<◌, ◌+◌, ◌-◌, ◌&&◌, ◌++◌, ℕ, Bool, not, List, [], ◌∷◌, Option, None, length}
use Rattle.std.specs.Prelude.{if◌then◌else◌}
use Rattle.std.specs.List.{flat_map, range_with_len}
use Rattle.std.specs.Option.{option_or}
use Rattle.elf_records.specs.declared.symbol.SymbolBinding.{SymbolBinding}
use Rattle.elf_records.specs.declared.symbol.SymbolBinding.TheVariants.{Local}
use Rattle.elf_records.specs.Symbols.{is_visible}
use Rattle.elf_object.specs.Lent.{symbol_binding, symbol_name, symbol_visibility}
use Rattle.elf_object.specs.Parts.{symbol_count}
use Rattle.link_faults.specs.declared.symbol_ref.SymbolRef.{SymbolRef}
use Rattle.tls_symbols.specs.declared.exporting.Offer.{Offer}
use Rattle.tls_symbols.specs.Bindings.{is_tls_symbol, object_at}
use Rattle.tls_symbols.specs.Definitions.{first_from, first_in, found_or, same_binding, IsWithin}
use Rattle.tls_symbols.specs.Numbers.{Names, number_of, told, IsNumberOf}

-- whether an image may export a name through symbol e: if the name binds to it, the image does
abbrev pub is_offered : List ℕ → ℕ → Bool
is_offered b e =
    not (same_binding Local (symbol_binding b e)) && (is_tls_symbol b e && is_visible (symbol_visibility b e))

abbrev pub offered_at : ℕ → List ℕ → ℕ → List SymbolRef
offered_at o b e = if is_offered b e then record { object = o; symbol = e } ∷ [] else []

-- such symbols of object o; symbol 0 is reserved
unfoldable pub offered_in : ℕ → List ℕ → List SymbolRef
offered_in o b = flat_map (offered_at o b) (range_with_len 1 (symbol_count b - 1))

-- those of the objects from number o on
abbrev pub offered_from : ℕ → List (List ℕ) → List SymbolRef
offered_from o [] = []
offered_from o (b ∷ more) = offered_in o b ++ offered_from (o + 1) more

-- the name of a symbol
abbrev pub name_at : List (List ℕ) → SymbolRef → List ℕ
name_at objects found = symbol_name (object_at objects found.object) found.symbol

-- the symbol is one of the objects', and has the number of its name
pub record IsOffer (names : Names) (objects : List (List ℕ)) (offer : Offer) : Type 0 where
  pub within : IsWithin objects offer.found
  pub number : IsNumberOf names (name_at objects offer.found) offer.number

-- ** tables of these names

-- a table of the first definition of each of the names, with this binding
pub record TellsAmong (names : Names) (binding : SymbolBinding) (objects : List (List ℕ))
    (table : List (Option SymbolRef)) : Type 0 where
  pub len : length table ≡ length names
  pub tells : (name : List ℕ) → number_of names name < length names
      → told names table name ≡ first_from binding name 0 objects

-- the first definitions of object o were entered, for those of the names that had none
pub record NotesAmong (names : Names) (binding : SymbolBinding) (o : ℕ) (b : List ℕ)
    (old new : List (Option SymbolRef)) : Type 0 where
  pub notes : (name : List ℕ) → number_of names name < length names
      → told names new name ≡ option_or (told names old name) (found_or o (first_in binding name b) None)

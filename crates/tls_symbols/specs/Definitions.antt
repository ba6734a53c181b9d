-- The symbol that a name binds to in an image (gABI, "Symbol Table": a GLOBAL definition takes precedence over a WEAK
-- one).
use Rattle.std.specs.Prelude.{◌+◌, ◌-◌, ◌&&◌, ◌++◌, ℕ, List, [], ◌∷◌, Bool, true, false, Option, Some, None, ◌<◌}
use Rattle.std.specs.Prelude.{length}
use Rattle.std.specs.Prelude.{slice_index_or}
use Rattle.std.specs.List.{find, range_with_len}
use Rattle.std.specs.Str.{bytes_eq}
use Rattle.elf_records.specs.declared.symbol.SymbolBinding.{SymbolBinding}
use Rattle.elf_records.specs.declared.symbol.SymbolBinding.TheVariants.{Local, Global, Weak}
use Rattle.elf_object.specs.declared.symbol.SymbolPlace.{SymbolPlace}
use Rattle.elf_object.specs.declared.symbol.SymbolPlace.TheVariants.{Undefined, Absolute, InSection}
use Rattle.elf_object.specs.Lent.{symbol_name, symbol_binding, symbol_place}
use Rattle.elf_object.specs.Parts.{symbol_count}
use Rattle.link_faults.specs.declared.symbol_ref.SymbolRef.{SymbolRef}

-- what is made of each element by its number, one after another; the first has number n
abbrev pub flat_map_from : {X A : Type 0} → (ℕ → X → List A) → ℕ → List X → List A
flat_map_from made n [] = []
flat_map_from made n (x ∷ more) = made n x ++ flat_map_from made (n + 1) more

abbrev pub same_binding : SymbolBinding → SymbolBinding → Bool
same_binding Local Local = true
same_binding Global Global = true
same_binding Weak Weak = true
same_binding _ _ = false

abbrev pub is_defined : SymbolPlace → Bool
is_defined Undefined = false
is_defined Absolute = true
is_defined (InSection s) = true

-- whether symbol e of an object defines the name, with this binding
abbrev pub defines : List ℕ → SymbolBinding → List ℕ → ℕ → Bool
defines b binding name e =
    same_binding binding (symbol_binding b e) && (is_defined (symbol_place b e) && bytes_eq name (symbol_name b e))

-- the first symbol of an object that does; symbol 0 is reserved
unfoldable pub first_in : SymbolBinding → List ℕ → List ℕ → Option ℕ
first_in binding name b = find (defines b binding name) (range_with_len 1 (symbol_count b - 1))

abbrev pub found_or : ℕ → Option ℕ → Option SymbolRef → Option SymbolRef
found_or o (Some e) rest = Some (record { object = o; symbol = e })
found_or o None rest = rest

-- the first such symbol of the objects from number o on, with its object
abbrev pub first_from : SymbolBinding → List ℕ → ℕ → List (List ℕ) → Option SymbolRef
first_from binding name o [] = None
first_from binding name o (b ∷ more) = found_or o (first_in binding name b) (first_from binding name (o + 1) more)

abbrev pub or_weak : Option SymbolRef → Option SymbolRef → Option SymbolRef
or_weak (Some strong) weak = Some strong
or_weak None weak = weak

-- the definition that a name binds to in an image: the first GLOBAL one, else the first WEAK one
unfoldable pub definition_of : List (List ℕ) → List ℕ → Option SymbolRef
definition_of objects name = or_weak (first_from Global name 0 objects) (first_from Weak name 0 objects)

-- the object exists and has this symbol
pub record IsWithin (objects : List (List ℕ)) (found : SymbolRef) : Type 0 where
  pub object : found.object < length objects
  pub symbol : found.symbol < symbol_count (slice_index_or objects found.object [])

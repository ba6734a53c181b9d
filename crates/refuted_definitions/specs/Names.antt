-- What a name is bound to (tls_symbols, Definitions and Bindings; elf_records, Symbols and RelocationRows), with one
-- word changed. Each makes `bindings_are_only` (binding_laws) false.
use Rattle.std.specs.Prelude.{◌≡◌, ◌↔◌, ◌+◌, ◌-◌, ◌++◌, ◌&&◌, ℕ, Bool, true, false, not, List, [], ◌∷◌, codes, map}
use Rattle.std.specs.Prelude.{if◌then◌else◌, Option, Some, None}
use Rattle.std.specs.List.{find, flat_map, range_with_len}
use Rattle.std.specs.Str.{bytes_eq}
use Rattle.elf_records.specs.declared.relocation.RelocationKind.{RelocationKind}
use Rattle.elf_records.specs.declared.relocation.RelocationKind.TheVariants.{GotTpOff}
use Rattle.elf_records.specs.declared.symbol.SymbolBinding.{SymbolBinding}
use Rattle.elf_records.specs.declared.symbol.SymbolBinding.TheVariants.{Local, Global, Weak}
use Rattle.elf_records.specs.declared.symbol.Visibility.{Visibility}
use Rattle.elf_records.specs.declared.symbol.Visibility.TheVariants.{Default, Internal, Hidden, Protected}
use Rattle.elf_records.specs.RelocationRows.{may_import}
use Rattle.elf_records.specs.Symbols.{get_address, is_visible}
use Rattle.elf_object.specs.declared.symbol.SymbolPlace.{SymbolPlace}
use Rattle.elf_object.specs.declared.symbol.SymbolPlace.TheVariants.{Undefined, Absolute, InSection}
use Rattle.elf_object.specs.Lent.{symbol_binding, symbol_name, symbol_place, symbol_visibility}
use Rattle.elf_object.specs.Parts.{symbol_count}
use Rattle.link_faults.specs.declared.binding.Binding.{Binding}
use Rattle.link_faults.specs.declared.binding.Binding.TheVariants.{Here, Runtime}
use Rattle.link_faults.specs.declared.symbol_ref.SymbolRef.{SymbolRef}
use Rattle.tls_symbols.specs.Bindings.{bound_to, exported_names, first_export, here_or, is_symbol, is_tls_symbol}
use Rattle.tls_symbols.specs.Bindings.{object_at}
use Rattle.tls_symbols.specs.Bindings.{of_startup}
use Rattle.tls_symbols.specs.Definitions.{definition_of, found_or, is_defined, or_weak, same_binding}
use Rattle.binding_laws.specs.Bound.{Asked, IsAnswer}

-- the statement, of any definition: what a symbol is bound to, what an image exports, which types may import
abbrev pub BindingsAreOnlyBy : (List (List ℕ) → List (List (List ℕ)) → ℕ → ℕ → Bool → Option Binding)
    → (List (List ℕ) → List (List ℕ)) → (RelocationKind → Bool) → Type 0
BindingsAreOnlyBy bound_to exported_names may_import = (q : Asked) (answer : Option Binding)
    → (bound_to q.objects (map exported_names q.images) q.o q.e (may_import q.kind) ≡ answer) ↔ IsAnswer q answer

-- ** definitions

-- `definition_of`, over any test of places, any first symbol, and any two bindings in their order
module _ (is_defined : SymbolPlace → Bool) (reserved : ℕ) (strong weak : SymbolBinding) where
  abbrev pub defines : List ℕ → SymbolBinding → List ℕ → ℕ → Bool
  defines b binding name e =
      same_binding binding (symbol_binding b e) && (is_defined (symbol_place b e) && bytes_eq name (symbol_name b e))

  abbrev pub first_in : SymbolBinding → List ℕ → List ℕ → Option ℕ
  first_in binding name b = find (defines b binding name) (range_with_len reserved (symbol_count b - 1))

  abbrev pub first_from : SymbolBinding → List ℕ → ℕ → List (List ℕ) → Option SymbolRef
  first_from binding name o [] = None
  first_from binding name o (b ∷ more) = found_or o (first_in binding name b) (first_from binding name (o + 1) more)

  abbrev pub definition_by : List (List ℕ) → List ℕ → Option SymbolRef
  definition_by objects name = or_weak (first_from strong name 0 objects) (first_from weak name 0 objects)

-- `is_defined`: an absolute symbol defines nothing
abbrev pub is_in_section : SymbolPlace → Bool
is_in_section Undefined = false
is_in_section Absolute = false
is_in_section (InSection s) = true

-- ** bindings

-- `bound_to`, over any definitions, any name of the run time's function, and any number of the first startup image
abbrev pub bound_by : (List (List ℕ) → List ℕ → Option SymbolRef) → List ℕ → ℕ → List (List ℕ)
    → List (List (List ℕ)) → ℕ → ℕ → Bool → Option Binding
bound_by definition get_address first objects startup o e imports =
    let b = object_at objects o in
    let name = symbol_name b e in
    if same_binding Local (symbol_binding b e)
    then Some (Here (record { object = o; symbol = e }))
    else if bytes_eq name get_address then Some Runtime
    else here_or (definition objects name) (if imports then of_startup (first_export name first startup) else None)

-- `get_address`: three underscores for two
abbrev pub other_address : List ℕ
other_address = codes "___tls_get_addr"

-- `may_import`: the row of R_X86_64_GOTTPOFF has `OwnVariable` for `AnyVariable`
abbrev pub may_import_descriptors : RelocationKind → Bool
may_import_descriptors GotTpOff = false
may_import_descriptors kind = may_import kind

-- ** exports

-- `is_visible`: a protected symbol is hidden
abbrev pub is_default : Visibility → Bool
is_default Default = true
is_default Internal = false
is_default Hidden = false
is_default Protected = false

-- `exported_names`, over any test of visibility
module _ (is_visible : Visibility → Bool) (objects : List (List ℕ)) where
  abbrev pub is_exported : ℕ → List ℕ → ℕ → Bool
  is_exported o b e =
      (not (same_binding Local (symbol_binding b e)) && is_symbol (definition_of objects (symbol_name b e)) o e)
      && (is_tls_symbol b e && is_visible (symbol_visibility b e))

  abbrev pub exported_at : ℕ → List ℕ → ℕ → List (List ℕ)
  exported_at o b e = if is_exported o b e then symbol_name b e ∷ [] else []

  abbrev pub exported_from : ℕ → List (List ℕ) → List (List ℕ)
  exported_from o [] = []
  exported_from o (b ∷ more) =
      flat_map (exported_at o b) (range_with_len 1 (symbol_count b - 1)) ++ exported_from (o + 1) more

  abbrev pub exported_by : List (List ℕ)
  exported_by = exported_from 0 objects

pub record NamesAreRefuted : Type 0 where
  -- a weak definition comes before a strong one
  pub weak_before_strong : BindingsAreOnlyBy
      (bound_by (definition_by is_defined 1 Weak Global) get_address 1) exported_names may_import → ⊥
  pub absolute_symbols_define_nothing : BindingsAreOnlyBy
      (bound_by (definition_by is_in_section 1 Global Weak) get_address 1) exported_names may_import → ⊥
  -- 2 for 1
  pub two_symbols_are_reserved : BindingsAreOnlyBy
      (bound_by (definition_by is_defined 2 Global Weak) get_address 1) exported_names may_import → ⊥
  pub run_time_has_three_underscores : BindingsAreOnlyBy
      (bound_by definition_of other_address 1) exported_names may_import → ⊥
  -- 0 for 1
  pub program_is_image_zero : BindingsAreOnlyBy
      (bound_by definition_of get_address 0) exported_names may_import → ⊥
  pub initial_exec_stays_at_home : BindingsAreOnlyBy bound_to exported_names may_import_descriptors → ⊥
  pub protected_is_hidden : BindingsAreOnlyBy bound_to (exported_by is_default) may_import → ⊥

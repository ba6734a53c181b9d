-- What is kept of a symbol is what each relocation that names it takes.
use Rattle.std.proofs.Common.{◌≡◌, ◌∙◌, ◌<◌, ℕ, Bool, true, false, List, Option, Some, None, length, map, refl}
use Rattle.std.proofs.Common.{sym, ap, arith}
use Rattle.std.proofs.lemmas.List.{get_or-map, length-map}
use Rattle.std.proofs.lemmas.List.FromFn.{get_or-map-range_with_len, length-map-range_with_len}
use Rattle.std.specs.Global.{Vec}
use Rattle.std.specs.Prelude.{if◌then◌else◌, slice_index_or}
use Rattle.std.specs.Str.{bytes_eq}
use Rattle.elf_records.specs.declared.relocation.RelocationKind.{RelocationKind}
use Rattle.elf_records.specs.declared.relocation.RelocationKind.TheVariants.{Nothing}
use Rattle.elf_records.specs.declared.relocation_row.TableEntry.{TableEntry}
use Rattle.elf_records.specs.declared.relocation_row.TableEntry.TheVariants.{NoEntry}
use Rattle.elf_records.specs.RelocationRows.{row}
use Rattle.elf_records.specs.RowLaws.{is_entry}
use Rattle.elf_object.specs.declared.relocation.Relocation.{Relocation}
use Rattle.elf_records.specs.declared.symbol.SymbolBinding.TheVariants.{Local}
use Rattle.elf_object.specs.Parts.{symbol_count}
use Rattle.elf_object.specs.Lent.{symbol_binding, symbol_name}
use Rattle.link_faults.specs.Bindings.{is_here}
use Rattle.link_faults.specs.declared.binding.Binding.{Binding}
use Rattle.link_faults.specs.declared.binding.Binding.TheVariants.{Here, Startup, Runtime}
use Rattle.link_faults.specs.declared.symbol_ref.SymbolRef.{SymbolRef}
use Rattle.tls_symbols.specs.Bindings.{bound_to, first_export, here_or, may_import, name_binding}
use Rattle.elf_records.specs.Symbols.{get_address}
use Rattle.tls_symbols.specs.Bindings.{of_startup}
use Rattle.tls_symbols.specs.Definitions.{definition_of, same_binding}
use Rattle.link_needs.specs.Linking.{Linking, binding, object}
use Rattle.link_needs.specs.Needs.{entry_need, need_address, relocation_need}
use Rattle.link_needs.specs.declared.symbol_values.SymbolValue.{SymbolValue}
use Rattle.link_needs.specs.Plans.{all_values, goes_by, is_own, is_run_time, number_by, reaches_entry}
use Rattle.link_needs.specs.Values.{goes, is_runtime, own_number}
use Rattle.link_needs.specs.Plans.{value_by, value_of, values_of}

-- ** the tables

module _ (l : Linking) (values : List (Vec SymbolValue)) (o : ℕ)
    (are : map (λ own. own.items) values ≡ all_values l) (there : o < length l.objects) where
  pub values_there : o < length values
  values_there =
      omega (
        arith,
        there,
        length-map values (λ own. own.items),
        ap length are,
        length-map-range_with_len (values_of l) 0 (length l.objects),
      )

  module _ (own : Vec SymbolValue) (is : own ≡ slice_index_or values o own) where
    own_are : own.items ≡ values_of l o
    own_are =
        ap (λ own. own.items) is
        ∙ sym (get_or-map (λ own. own.items) values o own own.items values_there)
        ∙ ap (λ all. slice_index_or all o own.items) are
        ∙ get_or-map-range_with_len (values_of l) 0 (length l.objects) o o own.items there (omega arith)

    module _ (e : ℕ) (named : e < symbol_count (object l o)) where
      pub value_there : e < length own.items
      value_there =
          omega (
            arith,
            named,
            ap length own_are,
            length-map-range_with_len (value_of l o) 0 (symbol_count (object l o)),
          )

      pub value_at : (other : SymbolValue) → slice_index_or own.items e other ≡ value_of l o e
      value_at other =
          ap (λ own. slice_index_or own e other) own_are
          ∙ get_or-map-range_with_len (value_of l o) 0 (symbol_count (object l o)) e e other named (omega arith)

module _ (l : Linking) where
  -- ** by what the symbol is bound to

  number_is : (kind : RelocationKind) (bound : Option Binding)
      → number_by l kind (value_by l bound) ≡ own_number l kind bound
  number_is kind (Some (Here found)) = refl
  number_is kind (Some (Startup image)) = refl
  number_is kind (Some Runtime) = refl
  number_is kind None = refl

  here_is : (bound : Option Binding) → is_own (value_by l bound) ≡ is_here bound
  here_is (Some (Here found)) = refl
  here_is (Some (Startup image)) = refl
  here_is (Some Runtime) = refl
  here_is None = refl

  runtime_is : (bound : Option Binding) → is_run_time (value_by l bound) ≡ is_runtime bound
  runtime_is (Some (Here found)) = refl
  runtime_is (Some (Startup image)) = refl
  runtime_is (Some Runtime) = refl
  runtime_is None = refl

  goes_is : (kind : RelocationKind) (bound : Option Binding) → goes_by (value_by l bound) kind ≡ goes bound kind
  goes_is kind bound = rw (here_is bound, runtime_is bound) refl

  -- ** by the relocation

  -- another image's name stands for nothing that the type changes
  elsewhere : (any : Bool) (image : Option ℕ)
      → value_by l None ≡ value_by l (if any then of_startup image else None)
  elsewhere false image = refl
  elsewhere true None = refl
  elsewhere true (Some image) = refl

  module _ (o : ℕ) (r : Relocation) where
    value_is : value_of l o r.symbol ≡ value_by l (binding l o r)
    unfolding value_of bound_to
    value_is = by_binding (same_binding Local (symbol_binding (object l o) r.symbol))
      where
        name : List ℕ
        name = symbol_name (object l o) r.symbol

        by_definition : (found : Option SymbolRef)
            → value_by l (here_or found None)
            ≡ value_by l (here_or found
            (if may_import r.kind then of_startup (first_export name 1 l.startup) else None))
        by_definition (Some found) = refl
        by_definition None = elsewhere (may_import r.kind) (first_export name 1 l.startup)

        by_name : (is : Bool)
            → value_by l (if is then Some Runtime else here_or (definition_of l.objects name) None)
            ≡ value_by l (if is then Some Runtime else
            here_or (definition_of l.objects name)
            (if may_import r.kind then of_startup (first_export name 1 l.startup) else None))
        by_name true = refl
        by_name false = by_definition (definition_of l.objects name)

        by_binding : (is : Bool)
            → value_by l (if is then Some (Here (record { object = o; symbol = r.symbol })) else
            name_binding l.objects l.startup Nothing name)
            ≡ value_by l (if is then Some (Here (record { object = o; symbol = r.symbol })) else
            name_binding l.objects l.startup r.kind name)
        by_binding true = refl
        by_binding false = by_name (bytes_eq name get_address)

    -- S or O
    pub takes_number : number_by l r.kind (value_of l o r.symbol) ≡ own_number l r.kind (binding l o r)
    takes_number = ap (number_by l r.kind) value_is ∙ number_is r.kind (binding l o r)

    -- whether it goes with its sequence
    pub takes_part : goes_by (value_of l o r.symbol) r.kind ≡ goes (binding l o r) r.kind
    takes_part = ap (λ value. goes_by value r.kind) value_is ∙ goes_is r.kind (binding l o r)

    -- ** entries

    none_by : (bound : Option Binding) (at : TableEntry) → is_entry at ≡ false → entry_need l o r.symbol bound at ≡ None
    none_by bound NoEntry e = refl
    none_by bound at e = absurd (cc)

    pub no_entry : reaches_entry r.kind ≡ false → 0 ≡ need_address l (relocation_need l o r)
    unfolding relocation_need
    no_entry e = ap (need_address l) (sym (none_by (binding l o r) (row r.kind).entry e))

-- The law fixes what a symbol is bound to: one over a wrong definition would make it the same, and here it is not.
use Rattle.std.proofs.Common.{◌≡◌, ℕ, Bool, true, false, List, [], ◌∷◌, map, Option, Some, ap}
use Rattle.std.specs.Prelude.{◌==◌}
use Rattle.elf_records.specs.declared.relocation.RelocationKind.{RelocationKind}
use Rattle.elf_records.specs.declared.relocation.RelocationKind.TheVariants.{GotTpOff, TpOff32}
use Rattle.elf_records.specs.Fields.{bytes_of, number_at, part_at, spelled}
use Rattle.elf_records.specs.Records.{header_at, header_bytes, section_at, section_bytes, symbol_at, symbol_bytes}
use Rattle.elf_records.specs.RelocationRows.{may_import}
use Rattle.elf_records.specs.declared.symbol.SymbolBinding.TheVariants.{Global, Weak}
use Rattle.elf_records.specs.Strings.{text_at}
use Rattle.elf_records.specs.Symbols.{get_address}
use Rattle.elf_object.specs.Classes.{class_of, kept_class}
use Rattle.elf_object.specs.Firsts.{first_below}
use Rattle.elf_object.specs.Lent.{section_bytes as lent_bytes, section_class, symbol_binding, symbol_name, symbol_place}
use Rattle.elf_object.specs.Lent.{symbol_visibility}
use Rattle.elf_object.specs.Parts.{header, section, symbol, symbol_table}
use Rattle.link_faults.specs.declared.binding.Binding.{Binding}
use Rattle.link_faults.specs.declared.binding.Binding.TheVariants.{Here, Runtime, Startup}
use Rattle.tls_symbols.specs.Bindings.{bound_to, exported_in, exported_names}
use Rattle.tls_symbols.specs.Definitions.{definition_of, first_in, is_defined}
use Rattle.binding_laws.specs.Bound.{Asked, IsAnswer}
use Rattle.binding_laws.specs.Laws.{BindingsAreOnly}
use Rattle.refuted_definitions.proofs.Objects.{asks, calls, defines_twice, object, offers}
use Rattle.refuted_definitions.proofs.Only.{one_answer}
use Rattle.refuted_definitions.specs.Names.{BindingsAreOnlyBy, NamesAreRefuted, bound_by, definition_by, exported_by}
use Rattle.refuted_definitions.specs.Names.{is_default, is_in_section, may_import_descriptors, other_address}

-- what symbol 1 of an object is bound to that is linked alone, beside a program or none
abbrev question : RelocationKind → List ℕ → List (List (List ℕ)) → Asked
question kind b images = record { objects = b ∷ []; images = images; kind = kind; o = 0; e = 1 }

abbrev is_here : ℕ → Option Binding → Bool
is_here e (Some (Here found)) = found.symbol == e
is_here e bound = false

abbrev is_startup : ℕ → Option Binding → Bool
is_startup k (Some (Startup image)) = image == k
is_startup k bound = false

abbrev is_runtime : Option Binding → Bool
is_runtime (Some Runtime) = true
is_runtime bound = false

module _ (law : BindingsAreOnly) (wrong_bound : List (List ℕ) → List (List (List ℕ)) → ℕ → ℕ → Bool → Option Binding)
    (wrong_names : List (List ℕ) → List (List ℕ)) (wrong_may : RelocationKind → Bool)
    (wrong : BindingsAreOnlyBy wrong_bound wrong_names wrong_may) where
  same : (kind : RelocationKind) (b : List ℕ) (images : List (List (List ℕ)))
      → bound_to (b ∷ []) (map exported_names images) 0 1 (may_import kind)
      ≡ wrong_bound (b ∷ []) (map wrong_names images) 0 1 (wrong_may kind)
  same kind b images = one_answer (IsAnswer (question kind b images))
      (bound_to (b ∷ []) (map exported_names images) 0 1 (may_import kind))
      (wrong_bound (b ∷ []) (map wrong_names images) 0 1 (wrong_may kind)) (law (question kind b images))
      (wrong (question kind b images))

weak_first : BindingsAreOnly → BindingsAreOnlyBy
    (bound_by (definition_by is_defined 1 Weak Global) get_address 1) exported_names may_import → ⊥
unfolding bound_to definition_of first_in symbol_binding symbol_name symbol_place symbol_table symbol section header
    header_at section_at symbol_at number_at text_at lent_bytes first_below object header_bytes section_bytes
    symbol_bytes spelled bytes_of part_at defines_twice
weak_first law wrong =
    let e : true ≡ false = ap (is_here 1) (same law (bound_by (definition_by is_defined 1 Weak Global) get_address 1)
    exported_names may_import wrong TpOff32 defines_twice []) in cc

no_absolute : BindingsAreOnly → BindingsAreOnlyBy
    (bound_by (definition_by is_in_section 1 Global Weak) get_address 1) exported_names may_import → ⊥
unfolding bound_to definition_of first_in symbol_binding symbol_name symbol_place symbol_table symbol section header
    header_at section_at symbol_at number_at text_at lent_bytes first_below object header_bytes section_bytes
    symbol_bytes spelled bytes_of part_at defines_twice
no_absolute law wrong =
    let e : true ≡ false = ap (is_here 1) (same law (bound_by (definition_by is_in_section 1 Global Weak) get_address 1)
    exported_names may_import wrong TpOff32 defines_twice []) in cc

two_reserved : BindingsAreOnly → BindingsAreOnlyBy
    (bound_by (definition_by is_defined 2 Global Weak) get_address 1) exported_names may_import → ⊥
unfolding bound_to definition_of first_in symbol_binding symbol_name symbol_place symbol_table symbol section header
    header_at section_at symbol_at number_at text_at lent_bytes first_below object header_bytes section_bytes
    symbol_bytes spelled bytes_of part_at defines_twice
two_reserved law wrong =
    let e : true ≡ false = ap (is_here 1) (same law (bound_by (definition_by is_defined 2 Global Weak) get_address 1)
    exported_names may_import wrong TpOff32 defines_twice []) in cc

three_underscores : BindingsAreOnly → BindingsAreOnlyBy
    (bound_by definition_of other_address 1) exported_names may_import → ⊥
unfolding bound_to definition_of first_in symbol_binding symbol_name symbol_place symbol_table symbol section header
    header_at section_at symbol_at number_at text_at lent_bytes first_below object header_bytes section_bytes
    symbol_bytes spelled bytes_of part_at calls
three_underscores law wrong =
    let e : true ≡ false = ap is_runtime (same law (bound_by definition_of other_address 1) exported_names may_import
    wrong TpOff32 calls []) in cc

image_zero : BindingsAreOnly → BindingsAreOnlyBy
    (bound_by definition_of get_address 0) exported_names may_import → ⊥
unfolding bound_to definition_of first_in symbol_binding symbol_name symbol_place symbol_table symbol section header
    header_at section_at symbol_at number_at text_at lent_bytes first_below object header_bytes section_bytes
    symbol_bytes spelled bytes_of part_at exported_names exported_in symbol_visibility section_class
    kept_class class_of asks offers
image_zero law wrong =
    let e : true ≡ false = ap (is_startup 1) (same law (bound_by definition_of get_address 0) exported_names may_import
    wrong GotTpOff asks ((offers ∷ []) ∷ [])) in cc

no_import : BindingsAreOnly → BindingsAreOnlyBy bound_to exported_names may_import_descriptors → ⊥
unfolding bound_to definition_of first_in symbol_binding symbol_name symbol_place symbol_table symbol section header
    header_at section_at symbol_at number_at text_at lent_bytes first_below object header_bytes section_bytes
    symbol_bytes spelled bytes_of part_at exported_names exported_in symbol_visibility section_class
    kept_class class_of asks offers
no_import law wrong =
    let e : true ≡ false = ap (is_startup 1) (same law bound_to exported_names may_import_descriptors
    wrong GotTpOff asks ((offers ∷ []) ∷ [])) in cc

no_protected : BindingsAreOnly → BindingsAreOnlyBy bound_to (exported_by is_default) may_import → ⊥
unfolding bound_to definition_of first_in symbol_binding symbol_name symbol_place symbol_table symbol section header
    header_at section_at symbol_at number_at text_at lent_bytes first_below object header_bytes section_bytes
    symbol_bytes spelled bytes_of part_at exported_names exported_in symbol_visibility section_class
    kept_class class_of asks offers
no_protected law wrong =
    let e : true ≡ false = ap (is_startup 1) (same law bound_to (exported_by is_default) may_import
    wrong GotTpOff asks ((offers ∷ []) ∷ [])) in cc

pub names_refuted : BindingsAreOnly → NamesAreRefuted
names_refuted law = record {
  weak_before_strong = weak_first law;
  absolute_symbols_define_nothing = no_absolute law;
  two_symbols_are_reserved = two_reserved law;
  run_time_has_three_underscores = three_underscores law;
  program_is_image_zero = image_zero law;
  initial_exec_stays_at_home = no_import law;
  protected_is_hidden = no_protected law;
}

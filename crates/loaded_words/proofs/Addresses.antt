-- An address that code reaches through the table is one of 64 bits: its symbol is defined in a section that is kept.
use Rattle.std.proofs.Common.{◌≡◌, ◌≢◌, ◌∙◌, ◌<◌, ◌≤◌, ◌^◌, ◌==◌, ℕ, Bool, true, false, List, [], Option, Some, None}
use Rattle.std.proofs.Common.{IsSome, length, inl, inr, refl, ap, subst, arith}
use Rattle.std.specs.Prelude.{nat_lt, unwrap_or, if◌then◌else◌}
use Rattle.std.specs.Str.{bytes_eq}
use Rattle.std.proofs.lemmas.Bool.Decides.{nat_tests}
use Rattle.elf_object.specs.declared.relocation.Relocation.{Relocation}
use Rattle.elf_records.specs.declared.symbol.SymbolBinding.TheVariants.{Local, Global, Weak}
use Rattle.elf_object.specs.declared.symbol.SymbolPlace.{SymbolPlace}
use Rattle.elf_object.specs.declared.symbol.SymbolPlace.TheVariants.{Undefined, Absolute, InSection}
use Rattle.elf_object.specs.Faults.{IsObject, Stands}
use Rattle.elf_object.specs.Lawful.{IsLawful}
use Rattle.elf_object.specs.LawsOfParts.{is_symbol, placed}
use Rattle.elf_object.specs.LawsOfSections.{kept_as}
use Rattle.elf_object.specs.Lent.{section_class, section_size, symbol_binding, symbol_name, symbol_place, symbol_value}
use Rattle.elf_object.specs.Parts.{symbol, symbol_count, symbol_table}
use Rattle.elf_records.specs.declared.relocation.RelocationKind.TheVariants.{Nothing}
use Rattle.elf_records.specs.Records.{symbol_binding as binding_number}
use Rattle.link_faults.specs.declared.binding.Binding.{Binding}
use Rattle.link_faults.specs.declared.binding.Binding.TheVariants.{Here, Runtime}
use Rattle.link_faults.specs.declared.symbol_ref.SymbolRef.{SymbolRef}
use Rattle.link_needs.proofs.InputsLemmas.{address_small}
use Rattle.link_needs.specs.Given.{IsGiven}
use Rattle.link_needs.specs.Linking.{Linking, address, binding, layout, object}
use Rattle.loaded_names.proofs.Defined.{definition_shared}
use Rattle.loaded_names.proofs.Symbols.{placed_in}
use Rattle.object_rules.specs.declared.fault.FaultKind.TheVariants.{SymbolSection}
use Rattle.tls_layout.specs.Places.{IsLawful as IsWithinLimits, address_of}
use Rattle.tls_symbols.specs.Bindings.{binding_of, bound_to, first_export, here_or, may_import, name_binding}
use Rattle.tls_symbols.specs.Bindings.{of_startup}
use Rattle.elf_records.specs.Symbols.{get_address}
use Rattle.tls_symbols.specs.Definitions.{definition_of, same_binding}
use Rattle.link_core.proofs.GotRelocationsSites.{has_value}
use Rattle.link_needs.specs.Linking.{placed_value}

-- ** a LOCAL symbol is defined

zero : (n : ℕ) → (n == 0) ≡ true → n ≡ 0
zero n e = grind (arith, nat_tests)

above : (e : ℕ) → 0 < e → nat_lt 0 e ≡ true
above e some = grind (arith, nat_tests)

local_is : (b : List ℕ) (e : ℕ) → 0 < e → same_binding Local (symbol_binding b e) ≡ true
    → binding_number (symbol b e) ≡ 0
unfolding symbol_binding
local_is b e some is =
    of_binding (nat_lt 0 e) (binding_number (symbol b e) == 0) (binding_number (symbol b e) == 1) (above e some) is
    (zero (binding_number (symbol b e)))
  where
    of_binding : (t first second : Bool) → t ≡ true
        → same_binding Local (if t then (if first then Local else if second then Global else Weak) else Local) ≡ true
        → (first ≡ true → binding_number (symbol b e) ≡ 0) → binding_number (symbol b e) ≡ 0
    of_binding true true second some is null = null refl
    of_binding true false true some is null = absurd (cc)
    of_binding true false false some is null = absurd (cc)
    of_binding false first second some is null = absurd (cc)

undefined_is : (b : List ℕ) (e : ℕ) → 0 < e → symbol_place b e ≡ Undefined → (symbol b e).shndx ≡ 0
unfolding symbol_place
undefined_is b e some is =
    of_place (nat_lt 0 e) ((symbol b e).shndx == 0) ((symbol b e).shndx == 0xfff1) (above e some) is
    (zero (symbol b e).shndx)
  where
    of_place : (t first second : Bool) → t ≡ true
        → (if t then (if first then Undefined else if second then Absolute else InSection (symbol b e).shndx)
        else Undefined) ≡ Undefined
        → (first ≡ true → (symbol b e).shndx ≡ 0) → (symbol b e).shndx ≡ 0
    of_place true true second some is null = null refl
    of_place true false true some is null = absurd (cc)
    of_place true false false some is null = absurd (cc)
    of_place false first second some is null = absurd (cc)

local_defined : (b : List ℕ) → IsObject b → (e : ℕ) → 0 < e → e < symbol_count b
    → same_binding Local (symbol_binding b e) ≡ true → symbol_place b e ≢ Undefined
unfolding Stands
local_defined b object e some below local none =
    object SymbolSection (symbol_table b) e
    (is_symbol b e some below, inr (inl (local_is b e some local, undefined_is b e some none)))

-- ** a symbol of a section that is kept

module _ (l : Linking) (given : IsGiven l) (limits : IsWithinLimits (layout l)) where
  start_low : (o s : ℕ) (at : Option ℕ) → address_of (layout l) o s ≡ at → unwrap_or at 0 ≤ 2 ^ 25
  start_low o s None is = omega arith
  start_low o s (Some address) is = address_small (layout l) o s address limits is

  -- where the symbol is
  record IsKept (found : SymbolRef) : Type 0 where
    there : found.object < length l.objects
    defined : symbol_place (object l found.object) found.symbol ≢ Undefined
    relative : symbol_place (object l found.object) found.symbol ≢ Absolute
    kept : (s : ℕ) → symbol_place (object l found.object) found.symbol ≡ InSection s
        → IsSome (section_class (object l found.object) s)
    inside : (s : ℕ) → symbol_place (object l found.object) found.symbol ≡ InSection s
        → IsSome (section_class (object l found.object) s)
        → symbol_value (object l found.object) found.symbol ≤ section_size (object l found.object) s

  address_low : (found : SymbolRef) → IsKept found → address l found < 2 ^ 64
  unfolding address
  address_low found is = of_place (symbol_place (object l found.object) found.symbol) refl
    where
      of_place : (place : SymbolPlace) → symbol_place (object l found.object) found.symbol ≡ place
          → placed_value (address_of (layout l) found.object) place
          (symbol_value (object l found.object) found.symbol) < 2 ^ 64
      of_place Undefined at = absurd (is.defined at)
      of_place Absolute at = absurd (is.relative at)
      of_place (InSection s) at =
          let some = is.kept s at in
          let class = has_value (section_class (object l found.object) s) some in
          let small = (kept_as (object l found.object)
          (given.are_objects found.object [] is.there) s class.0 class.1).small in
          let start = start_low found.object s (address_of (layout l) found.object s) refl in
          let inside = is.inside s at some in
          omega (arith, small, start, inside)

  -- ** what a relocation is bound to

  -- a definition is kept
  definition_kept : (name : List ℕ) (found : SymbolRef) → definition_of l.objects name ≡ Some found → IsKept found
  definition_kept name found is =
      let shares = definition_shared l.objects name found is in
      let p = placed_in l given found shares in
      record {
        there = shares.within.object;
        defined = p.defined;
        relative = p.relative;
        kept = p.kept;
        inside = p.inside;
      }

  module _ (o t : ℕ) (there : o < length l.objects) (r : Relocation) (is : IsLawful (object l o) t r)
      (some : r.kind ≢ Nothing) where
    local_kept : same_binding Local (symbol_binding (object l o) r.symbol) ≡ true
        → IsKept (record { object = o; symbol = r.symbol })
    local_kept local =
        let whole = given.are_objects o [] there in
        let symbol_is = is.symbol some in
        let p = placed (object l o) whole r.symbol symbol_is.1 in
        record {
          there = there;
          defined = local_defined (object l o) whole r.symbol symbol_is.0 symbol_is.1 local;
          relative = is.relative some;
          kept = is.kept some;
          inside = λ s at kept. let inside = p.inside s at kept in omega (arith, inside);
        }

    same_here : (x y : SymbolRef) → ◌≡◌ {A = Option Binding} (Some (Here x)) (Some (Here y)) → x ≡ y
    same_here x y e = cc

    pub bound_low : (found : SymbolRef) → binding l o r ≡ Some (Here found) → address l found < 2 ^ 64
    unfolding bound_to
    bound_low found at = of_local (same_binding Local (symbol_binding (object l o) r.symbol)) refl at
      where
        of_export : (may : Bool) (k : Option ℕ)
            → (if may then of_startup k else None) ≡ Some (Here found) → address l found < 2 ^ 64
        of_export true None is = absurd (cc)
        of_export true (Some k) is = absurd (cc)
        of_export false k is = absurd (cc)

        of_definition : (x : Option SymbolRef) → definition_of l.objects (symbol_name (object l o) r.symbol) ≡ x
            → here_or x (if may_import r.kind
            then of_startup (first_export (symbol_name (object l o) r.symbol) 1 l.startup) else None)
            ≡ Some (Here found)
            → address l found < 2 ^ 64
        of_definition None is at =
            of_export (may_import r.kind) (first_export (symbol_name (object l o) r.symbol) 1 l.startup) at
        of_definition (Some x) is at =
            let same : x ≡ found = same_here x found at in
            address_low found
            (definition_kept (symbol_name (object l o) r.symbol) found (is ∙ ap (λ (y : SymbolRef). Some y) same))

        of_name : (runtime : Bool)
            → (if runtime then Some Runtime else here_or (definition_of l.objects (symbol_name (object l o) r.symbol))
            (if may_import r.kind
            then of_startup (first_export (symbol_name (object l o) r.symbol) 1 l.startup) else None))
            ≡ Some (Here found)
            → address l found < 2 ^ 64
        of_name true at = absurd (cc)
        of_name false at = of_definition (definition_of l.objects (symbol_name (object l o) r.symbol)) refl at

        of_local : (local : Bool) → same_binding Local (symbol_binding (object l o) r.symbol) ≡ local
            → (if local then Some (Here (record { object = o; symbol = r.symbol }))
            else name_binding l.objects l.startup r.kind (symbol_name (object l o) r.symbol)) ≡ Some (Here found)
            → address l found < 2 ^ 64
        of_local true local at =
            let whole : SymbolRef = record { object = o; symbol = r.symbol } in
            let same : record { object = o; symbol = r.symbol } ≡ found = same_here whole found at in
            subst (λ (y : SymbolRef). address l y < 2 ^ 64) same
            (address_low (record { object = o; symbol = r.symbol }) (local_kept local))
        of_local false shared at = of_name (bytes_eq (symbol_name (object l o) r.symbol) get_address) at

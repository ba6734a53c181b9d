-- Each symbol of an image that a relocation is bound to lies in a section that linking keeps.
use Rattle.std.proofs.Common.{◌≡◌, ◌≢◌, ◌∙◌, ◌<◌, ◌==◌, ℕ, Bool, true, false, List, Option}
use Rattle.std.proofs.Common.{Some, None, IsSome, length, inl, inr, refl, ap, subst, arith}
use Rattle.std.specs.Prelude.{nat_lt, if◌then◌else◌}
use Rattle.std.specs.Str.{bytes_eq}
use Rattle.std.proofs.lemmas.Bool.Decides.{nat_tests}
use Rattle.object_rules.specs.declared.fault.FaultKind.TheVariants.{SymbolSection}
use Rattle.elf_records.specs.declared.relocation.RelocationKind.TheVariants.{Nothing}
use Rattle.elf_records.specs.declared.symbol.SymbolBinding.{SymbolBinding}
use Rattle.elf_records.specs.declared.symbol.SymbolBinding.TheVariants.{Local, Global, Weak}
use Rattle.elf_records.specs.Records.{symbol_binding as binding_number}
use Rattle.elf_records.specs.RelocationRows.{may_import}
use Rattle.elf_records.specs.Symbols.{binding_numbered, get_address}
use Rattle.elf_object.specs.declared.relocation.Relocation.{Relocation}
use Rattle.elf_object.specs.declared.symbol.SymbolPlace.{SymbolPlace}
use Rattle.elf_object.specs.declared.symbol.SymbolPlace.TheVariants.{Undefined, Absolute, InSection}
use Rattle.elf_object.specs.Faults.{IsObject, Stands}
use Rattle.elf_object.specs.Lawful.{IsLawful}
use Rattle.elf_object.specs.LawsOfParts.{is_symbol, shared}
use Rattle.elf_object.specs.Lent.{place_numbered, section_class, symbol_binding, symbol_name, symbol_place}
use Rattle.elf_object.specs.Parts.{symbol, symbol_count, symbol_table}
use Rattle.link_faults.specs.declared.binding.Binding.TheVariants.{Here, Runtime}
use Rattle.link_faults.specs.declared.symbol_ref.SymbolRef.{SymbolRef}
use Rattle.link_needs.specs.Given.{IsGiven}
use Rattle.link_needs.specs.Linking.{Linking, binding, object}
use Rattle.tls_symbols.specs.Bindings.{bound_to, first_export, here_or, name_bound, object_at, of_startup}
use Rattle.tls_symbols.specs.Definitions.{definition_of, is_defined, same_binding}
use Rattle.tls_symbols.proofs.ExportLaw.{definition_defines}
use Rattle.link_core.proofs.LengthsInside.{is_object}

-- the symbol is in a section that linking keeps
pub record IsKeptSymbol (b : List ℕ) (e : ℕ) : Type 0 where
  pub count : e < symbol_count b
  pub section : ℕ
  pub place_is : symbol_place b e ≡ InSection section
  pub some : IsSome (section_class b section)

-- a LOCAL symbol is defined
local_defined : (b : List ℕ) → IsObject b → (e : ℕ) → 0 < e → e < symbol_count b → symbol_binding b e ≡ Local
    → symbol_place b e ≢ Undefined
unfolding Stands symbol_binding symbol_place
local_defined b object e above below own undefined =
    object SymbolSection (symbol_table b) e (
      is_symbol b e above below,
      inr (inl (
        local (nat_lt 0 e) (binding_number (symbol b e)) (after e above) own,
        none (nat_lt 0 e) (symbol b e).shndx (after e above) undefined,
      )),
    )
  where
    after : (e : ℕ) → 0 < e → nat_lt 0 e ≡ true
    after e h = grind (arith, nat_tests)

    zero_of : (n : ℕ) → (n == 0) ≡ true → n ≡ 0
    zero_of n h = grind (arith, nat_tests)

    of_binding : (zero one : Bool) → (if zero then Local else if one then Global else Weak) ≡ Local → zero ≡ true
    of_binding true one e = refl
    of_binding false true e = absurd (cc)
    of_binding false false e = absurd (cc)

    of_place : (zero absolute : Bool) (n : ℕ)
        → (if zero then Undefined else if absolute then Absolute else InSection n) ≡ Undefined → zero ≡ true
    of_place true absolute n e = refl
    of_place false true n e = absurd (cc)
    of_place false false n e = absurd (cc)

    local : (t : Bool) (n : ℕ) → t ≡ true → (if t then binding_numbered n else Local) ≡ Local → n ≡ 0
    local true n h e = zero_of n (of_binding (n == 0) (n == 1) e)
    local false n h e = absurd (cc)

    none : (t : Bool) (n : ℕ) → t ≡ true → (if t then place_numbered n else Undefined) ≡ Undefined → n ≡ 0
    none true n h e = zero_of n (of_place (n == 0) (n == 0xfff1) n e)
    none false n h e = absurd (cc)

kept_symbol : (b : List ℕ) (e : ℕ) → e < symbol_count b → symbol_place b e ≢ Undefined → symbol_place b e ≢ Absolute
    → ((s : ℕ) → symbol_place b e ≡ InSection s → IsSome (section_class b s)) → IsKeptSymbol b e
kept_symbol b e below defined relative kept = by (symbol_place b e) refl
  where
    by : (p : SymbolPlace) → symbol_place b e ≡ p → IsKeptSymbol b e
    by Undefined is = absurd (defined is)
    by Absolute is = absurd (relative is)
    by (InSection s) is = record { count = below; section = s; place_is = is; some = kept s is }

is_local : (binding : SymbolBinding) → same_binding Local binding ≡ true → binding ≡ Local
is_local Local e = refl
is_local binding e = absurd (cc)

not_local : (binding : SymbolBinding) → same_binding Local binding ≡ false → binding ≢ Local
not_local binding e same = let own = ap (same_binding Local) same in cc

not_undefined : (p : SymbolPlace) → is_defined p ≡ true → p ≢ Undefined
not_undefined p e same = let none = ap is_defined same in cc

-- the object exists, and its symbol is
pub record IsKept (objects : List (List ℕ)) (found : SymbolRef) : Type 0 where
  pub object : found.object < length objects
  pub symbol : IsKeptSymbol (object_at objects found.object) found.symbol

-- what a relocation of the link may name
module _ (l : Linking) (given : IsGiven l) where
  definition_kept : (name : List ℕ) (found : SymbolRef) → definition_of l.objects name ≡ Some found
      → IsKept l.objects found
  definition_kept name found is =
      let d = definition_defines l.objects name found is in
      let b = object l found.object in
      let laws = shared b (is_object l found.object given d.object) found.symbol d.symbol
      (not_local (symbol_binding b found.symbol) d.shared) in
      record {
        object = d.object;
        symbol = kept_symbol b found.symbol d.symbol (not_undefined (symbol_place b found.symbol) d.defined)
            laws.relative laws.kept;
      }

  local_kept : (o t : ℕ) (r : Relocation) → o < length l.objects → IsLawful (object l o) t r → r.kind ≢ Nothing
      → symbol_binding (object l o) r.symbol ≡ Local → IsKeptSymbol (object l o) r.symbol
  local_kept o t r there lawful some own =
      let b = object l o in
      let number = lawful.symbol some in
      kept_symbol b r.symbol number.1 (local_defined b (is_object l o given there) r.symbol number.0 number.1 own)
      (lawful.relative some) (lawful.kept some)

  pub bound_kept : (o t : ℕ) (r : Relocation) (found : SymbolRef) → o < length l.objects → IsLawful (object l o) t r
      → r.kind ≢ Nothing → binding l o r ≡ Some (Here found) → IsKept l.objects found
  unfolding bound_to
  bound_kept o t r found there lawful some e =
      of_local (same_binding Local (symbol_binding (object l o) r.symbol)) refl e
    where
      none_here : (t : Bool) (k : Option ℕ) → (if t then of_startup k else None) ≡ Some (Here found) → ⊥
      none_here true None e = cc
      none_here true (Some k) e = cc
      none_here false k e = cc

      of_definition : (name : List ℕ) (defined : Option SymbolRef) → definition_of l.objects name ≡ defined
          → here_or defined (if may_import r.kind then of_startup (first_export name 1 l.startup) else None)
          ≡ Some (Here found) → IsKept l.objects found
      of_definition name (Some defined) is e =
          let same : defined ≡ found = cc in definition_kept name found (is ∙ ap Some same)
      of_definition name None is e = absurd (none_here (may_import r.kind) (first_export name 1 l.startup) e)

      of_name : (name : List ℕ) (t : Bool)
          → (if t then Some Runtime else here_or (definition_of l.objects name)
          (if may_import r.kind then of_startup (first_export name 1 l.startup) else None)) ≡ Some (Here found)
          → IsKept l.objects found
      of_name name true e = absurd (cc)
      of_name name false e = of_definition name (definition_of l.objects name) refl e

      of_local : (t : Bool) → same_binding Local (symbol_binding (object l o) r.symbol) ≡ t
          → (if t then Some (Here (record { object = o; symbol = r.symbol }))
          else name_bound l.objects l.startup (may_import r.kind) (symbol_name (object l o) r.symbol))
          ≡ Some (Here found) → IsKept l.objects found
      of_local true own e =
          let same : record { object = o; symbol = r.symbol } ≡ found = cc in
          subst (IsKept l.objects) same (record {
            object = there;
            symbol = local_kept o t r there lawful some (is_local (symbol_binding (object l o) r.symbol) own);
          })
      of_local false own e =
          let name = symbol_name (object l o) r.symbol in of_name name (bytes_eq name get_address) e

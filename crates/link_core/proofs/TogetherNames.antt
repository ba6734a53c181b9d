-- What is bound to the run time's function is the object's undefined `__tls_get_addr`.
use Rattle.std.proofs.Common.{◌≡◌, ◌<◌, ◌==◌, ◌||◌, ◌&&◌, ℕ, Bool, true, false, not, List, Option, Some}
use Rattle.std.proofs.Common.{None, length, nat_lt, if◌then◌else◌, refl, inl, inr, arith}
use Rattle.std.specs.Str.{bytes_eq}
use Rattle.std.proofs.lemmas.Bool.{eqb-true, lt-ltb}
use Rattle.std.proofs.lemmas.Slice.Eq.{bytes_eq-Decides}
use Rattle.elf_records.specs.Records.{symbol_binding as binding_number}
use Rattle.object_rules.specs.declared.fault.FaultKind.TheVariants.{SymbolSection}
use Rattle.elf_object.specs.declared.relocation.Relocation.{Relocation}
use Rattle.elf_records.specs.declared.symbol.SymbolBinding.TheVariants.{Local, Global, Weak}
use Rattle.elf_object.specs.declared.symbol.SymbolPlace.{SymbolPlace}
use Rattle.elf_object.specs.declared.symbol.SymbolPlace.TheVariants.{Undefined, Absolute, InSection}
use Rattle.elf_object.specs.Faults.{IsObject, Stands}
use Rattle.elf_object.specs.LawsOfParts.{is_symbol}
use Rattle.elf_object.specs.Lent.{place_numbered, symbol_binding, symbol_name, symbol_place}
use Rattle.elf_object.specs.Parts.{symbol, symbol_count, symbol_table}
use Rattle.link_faults.specs.declared.fault.LinkFaultKind.TheVariants.{Duplicate}
use Rattle.sequence_match.specs.Faults.{IsGetter}
use Rattle.link_faults.specs.declared.binding.Binding.{Binding}
use Rattle.link_faults.specs.declared.binding.Binding.TheVariants.{Here, Runtime}
use Rattle.link_faults.specs.declared.symbol_ref.SymbolRef.{SymbolRef}
use Rattle.tls_symbols.specs.Bindings.{binding_of, bound_to, first_export, here_or, may_import, name_binding}
use Rattle.elf_records.specs.Symbols.{get_address}
use Rattle.tls_symbols.specs.Bindings.{object_at, of_startup}
use Rattle.tls_symbols.specs.Definitions.{definition_of, is_defined, same_binding}
use Rattle.tls_symbols.specs.Faults.{is_second, AreResolved, Stands as StandsAt}

-- ** an undefined symbol is not LOCAL

undefined_is : (b : List ℕ) (e : ℕ) → 0 < e → symbol_place b e ≡ Undefined → (symbol b e).shndx ≡ 0
unfolding symbol_place
undefined_is b e above h = of (nat_lt 0 e) (symbol b e).shndx (lt-ltb 0 e above) h
  where
    of_tests : (none absolute : Bool) (n : ℕ)
        → (if none then Undefined else if absolute then Absolute else InSection n) ≡ Undefined → none ≡ true
    of_tests true absolute n h = refl
    of_tests false true n h = absurd (cc)
    of_tests false false n h = absurd (cc)

    of : (t : Bool) (n : ℕ) → t ≡ true → (if t then place_numbered n else Undefined) ≡ Undefined → n ≡ 0
    of true n t h = eqb-true n 0 (of_tests (n == 0) (n == 0xfff1) n h)
    of false n t h = absurd (cc)

local_is : (b : List ℕ) (e : ℕ) → 0 < e → same_binding Local (symbol_binding b e) ≡ true
    → binding_number (symbol b e) ≡ 0
unfolding symbol_binding
local_is b e above h = of (nat_lt 0 e) (lt-ltb 0 e above) (binding_number (symbol b e) == 0)
    (binding_number (symbol b e) == 1) (binding_number (symbol b e)) h (eqb-true (binding_number (symbol b e)) 0)
  where
    of : (t : Bool) → t ≡ true → (a c : Bool) (n : ℕ)
        → same_binding Local (if t then (if a then Local else if c then Global else Weak) else Local) ≡ true
        → (a ≡ true → n ≡ 0) → n ≡ 0
    of true t true c n h is = is refl
    of true t false true n h is = absurd (cc)
    of true t false false n h is = absurd (cc)
    of false t a c n h is = absurd (cc)

undefined_shared : (b : List ℕ) → IsObject b → (e : ℕ) → 0 < e → e < symbol_count b → symbol_place b e ≡ Undefined
    → same_binding Local (symbol_binding b e) ≡ false
unfolding Stands
undefined_shared b object e above below place = by (same_binding Local (symbol_binding b e)) refl
  where
    by : (t : Bool) → same_binding Local (symbol_binding b e) ≡ t → same_binding Local (symbol_binding b e) ≡ false
    by false h = h
    by true h =
        absurd (object SymbolSection (symbol_table b) e (
          is_symbol b e above below,
          inr (inl (local_is b e above h, undefined_is b e above place)),
        ))

module _ (objects : List (List ℕ)) (startup : List (List (List ℕ))) (o : ℕ) where
  abbrev own : List ℕ
  own = object_at objects o

  -- it is bound to the run time's function where it has its name
  pub getter_bound : IsObject own → (r : Relocation) → 0 < r.symbol → IsGetter own r.symbol
      → binding_of objects startup o r ≡ Some Runtime
  unfolding bound_to
  getter_bound object r above getter =
      let same = (bytes_eq-Decides (symbol_name own r.symbol) get_address).1 getter.2 in
      rw (undefined_shared own object r.symbol above getter.0 getter.1, same) refl

  -- ** what is bound to the run time's function

  of_startup_not : (found : Option ℕ) → of_startup found ≡ Some Runtime → ⊥
  of_startup_not None h = cc
  of_startup_not (Some k) h = cc

  no_import : (t : Bool) (found : Option ℕ) → (if t then of_startup found else None) ≡ Some Runtime → ⊥
  no_import true found h = of_startup_not found h
  no_import false found h = cc

  here_not : (found : Option SymbolRef) (rest : Option Binding) → (rest ≡ Some Runtime → ⊥)
      → here_or found rest ≡ Some Runtime → ⊥
  here_not (Some found) rest other h = cc
  here_not None rest other h = other h

  abbrev IsRunTime : ℕ → Type 0
  IsRunTime n = (same_binding Local (symbol_binding own n) ≡ false) × (bytes_eq (symbol_name own n) get_address ≡ true)

  runtime_named : (r : Relocation) → binding_of objects startup o r ≡ Some Runtime → IsRunTime r.symbol
  unfolding bound_to
  runtime_named r is = of_local (same_binding Local (symbol_binding own r.symbol)) refl is
    where
      of_name : (n : List ℕ) (t : Bool) → bytes_eq n get_address ≡ t
          → (if t then Some Runtime else here_or (definition_of objects n)
          (if may_import r.kind then of_startup (first_export n 1 startup) else None)) ≡ Some Runtime
          → bytes_eq n get_address ≡ true
      of_name n true e h = e
      of_name n false e h =
          absurd (here_not (definition_of objects n)
          (if may_import r.kind then of_startup (first_export n 1 startup) else None)
          (no_import (may_import r.kind) (first_export n 1 startup)) h)

      of_local : (t : Bool) → same_binding Local (symbol_binding own r.symbol) ≡ t
          → (if t then Some (Here (record { object = o; symbol = r.symbol }))
          else name_binding objects startup r.kind (symbol_name own r.symbol)) ≡ Some Runtime → IsRunTime r.symbol
      of_local true e h = absurd (cc)
      of_local false e h =
          (e, of_name (symbol_name own r.symbol) (bytes_eq (symbol_name own r.symbol) get_address) refl h)

  undefined_of : (place : SymbolPlace) → is_defined place ≡ false → place ≡ Undefined
  undefined_of Undefined h = refl
  undefined_of Absolute h = absurd (cc)
  undefined_of (InSection s) h = absurd (cc)

  duplicate_of : (second loc defined named : Bool) → loc ≡ false → defined ≡ true → named ≡ true
      → (second || ((not loc && defined) && named)) ≡ true
  duplicate_of true loc defined named a b c = refl
  duplicate_of false loc defined named a b c = rw (a, b, c) refl

  -- no object defines it
  pub runtime_getter : AreResolved objects startup → o < length objects → (r : Relocation) → 0 < r.symbol
      → r.symbol < symbol_count own → binding_of objects startup o r ≡ Some Runtime → IsGetter own r.symbol
  unfolding StandsAt
  runtime_getter resolved there r above below is =
      let named = runtime_named r is in (
        below,
        undefined_of (symbol_place own r.symbol) (by named (is_defined (symbol_place own r.symbol)) refl),
        (bytes_eq-Decides (symbol_name own r.symbol) get_address).0 named.1,
      )
    where
      by : IsRunTime r.symbol → (t : Bool) → is_defined (symbol_place own r.symbol) ≡ t
          → is_defined (symbol_place own r.symbol) ≡ false
      by named false e = e
      by named true e =
          absurd (resolved Duplicate (omega arith) o (symbol_table own) r.symbol (
            there,
            refl,
            above,
            below,
            duplicate_of (is_second objects o own r.symbol) (same_binding Local (symbol_binding own r.symbol))
                (is_defined (symbol_place own r.symbol)) (bytes_eq (symbol_name own r.symbol) get_address)
                named.0 e named.1,
          ))

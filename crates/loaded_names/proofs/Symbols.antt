-- A definition stands in a section that linking keeps, and its type is that of thread-local storage in such a section alone.
use Rattle.std.proofs.Common.{◌≡◌, ◌≢◌, ◌≤◌, ℕ, true, false, List, [], IsSome, refl, subst, arith}
use Rattle.elf_records.specs.declared.symbol.SymbolBinding.{SymbolBinding}
use Rattle.elf_records.specs.declared.symbol.SymbolBinding.TheVariants.{Local, Global, Weak}
use Rattle.elf_object.specs.declared.symbol.SymbolPlace.{SymbolPlace}
use Rattle.elf_object.specs.declared.symbol.SymbolPlace.TheVariants.{Undefined, Absolute, InSection}
use Rattle.elf_records.specs.declared.symbol.SymbolType.{SymbolType}
use Rattle.elf_records.specs.declared.symbol.SymbolType.TheVariants as types
use Rattle.elf_object.specs.Classes.{IsTls}
use Rattle.elf_object.specs.Faults.{IsObject}
use Rattle.elf_object.specs.Lawful.{IsPlaced, IsShared as IsSharedIn}
use Rattle.elf_object.specs.LawsOfParts.{placed, shared}
use Rattle.elf_object.specs.Lent.{section_class, section_size, symbol_binding, symbol_place, symbol_type, symbol_value}
use Rattle.object_faults.specs.declared.class.SectionClass.{SectionClass}
use Rattle.object_faults.specs.declared.class.SectionClass.TheVariants.{Executable, ReadOnly, Tls, Writable}
use Rattle.std.specs.Prelude.{Option, Some, None}
use Rattle.dynamic_symbols.specs.Laws.{IsShared}
use Rattle.elf_records.specs.Symbols.{is_tls}
use Rattle.link_faults.specs.declared.symbol_ref.SymbolRef.{SymbolRef}
use Rattle.link_needs.specs.Given.{IsGiven}
use Rattle.link_needs.specs.Linking.{Linking, object}
use Rattle.elf_object.specs.Lent.{is_tls_class, is_tls_place}
use Rattle.tls_symbols.specs.Definitions.{is_defined, same_binding}

not_local : (y : SymbolBinding) → same_binding Local y ≡ false → y ≢ Local
not_local Local other = absurd (cc)
not_local Global other = λ h. cc
not_local Weak other = λ h. cc

tls_section : (c : Option SectionClass) → IsTls c → is_tls_class c ≡ true
tls_section None is = absurd is
tls_section (Some Executable) is = absurd is
tls_section (Some ReadOnly) is = absurd is
tls_section (Some (Tls initial)) is = refl
tls_section (Some (Writable initial)) is = absurd is

-- what is known of a definition
pub record IsPlacedIn (l : Linking) (found : SymbolRef) : Type 0 where
  pub defined : symbol_place (object l found.object) found.symbol ≢ Undefined
  pub relative : symbol_place (object l found.object) found.symbol ≢ Absolute
  pub kept : (s : ℕ) → symbol_place (object l found.object) found.symbol ≡ InSection s
      → IsSome (section_class (object l found.object) s)
  pub inside : (s : ℕ) → symbol_place (object l found.object) found.symbol ≡ InSection s
      → IsSome (section_class (object l found.object) s)
      → symbol_value (object l found.object) found.symbol ≤ section_size (object l found.object) s
  -- outside thread-local storage it is shown as no variable of threads
  pub not_tls : is_tls_place (object l found.object) (symbol_place (object l found.object) found.symbol) ≡ false
      → is_tls (symbol_type (object l found.object) found.symbol) ≡ false

module _ (l : Linking) (given : IsGiven l) (found : SymbolRef) (shares : IsShared l.objects found) where
  abbrev e : ℕ
  e = found.symbol

  abbrev b : List ℕ
  b = object l found.object

  is_object : IsObject b
  is_object = given.are_objects found.object [] shares.within.object

  is_placed : IsPlaced b e
  is_placed = placed b is_object e shares.within.symbol

  is_shared : IsSharedIn b e
  is_shared = shared b is_object e shares.within.symbol (not_local (symbol_binding b e) shares.shared)

  known : symbol_place b e ≢ Undefined
  known at = let bad : is_defined Undefined ≡ true = subst (λ place. is_defined place ≡ true) at shares.defined in cc

  outside : is_tls_place b (symbol_place b e) ≡ false → is_tls (symbol_type b e) ≡ false
  outside other = of_type (symbol_type b e) refl
    where
      of_place : (place : SymbolPlace) → symbol_place b e ≡ place → symbol_type b e ≡ types.Tls
          → is_tls_place b place ≡ true
      of_place Undefined at typed = absurd (known at)
      of_place Absolute at typed = absurd (is_shared.relative at)
      of_place (InSection s) at typed = tls_section (section_class b s) (is_placed.thread_local s typed at)

      of_type : (kind : SymbolType) → symbol_type b e ≡ kind → is_tls kind ≡ false
      of_type types.NoType typed = refl
      of_type types.Object typed = refl
      of_type types.Func typed = refl
      of_type types.Section typed = refl
      of_type types.File typed = refl
      of_type types.Tls typed = let bad = of_place (symbol_place b e) refl typed in absurd (cc)

  pub placed_in : IsPlacedIn l found
  placed_in = record {
    defined = known;
    relative = is_shared.relative;
    kept = is_shared.kept;
    inside = λ s at kept. let whole = is_placed.inside s at kept in omega (arith, whole);
    not_tls = outside;
  }

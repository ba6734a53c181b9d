-- What callers may rely on in the sections and symbols that an object lends: it has no fault, said of its parts.
use Rattle.std.proofs.Common.{◌≡◌, ◌≢◌, ◌+◌, ◌/◌, ◌<◌, ◌≤◌, ◌⊎◌, ◌∙◌, ◌==◌, ◌&&◌, ℕ, Bool, true, false, List, Option}
use Rattle.std.proofs.Common.{Some, None, IsSome, nat_lt, if◌then◌else◌, inl, inr, refl, sym, subst, arith}
use Rattle.std.proofs.lemmas.Bool.{cases_lt}
use Rattle.std.proofs.lemmas.Bool.Decides.{nat_tests}
use Rattle.elf_records.specs.Records.{symbol_binding as binding_number, symbol_kind as type_number}
use Rattle.object_rules.specs.declared.fault.FaultKind.TheVariants.{SymbolSection, SymbolRange, SymbolKind}
use Rattle.object_faults.specs.declared.class.SectionClass.{SectionClass}
use Rattle.object_faults.specs.declared.class.SectionClass.TheVariants.{Executable, ReadOnly, Tls, Writable}
use Rattle.elf_records.specs.declared.symbol.SymbolBinding.TheVariants.{Local, Global, Weak}
use Rattle.elf_records.specs.declared.symbol.SymbolType.{SymbolType}
use Rattle.elf_records.specs.declared.symbol.SymbolType.TheVariants.{NoType, Object, Func, Section, File}
use Rattle.elf_records.specs.declared.symbol.SymbolType.TheVariants.{Tls as ThreadLocal}
use Rattle.elf_object.specs.declared.symbol.SymbolPlace.TheVariants.{Undefined, Absolute, InSection}
use Rattle.elf_object.specs.Parts.{header, section, symbol, symbol_table, symbol_count, IsSection}
use Rattle.elf_object.specs.Classes.{kept_class, IsKeptSection, IsTls}
use Rattle.elf_object.specs.Lent.{section_class, section_size, symbol_binding, symbol_type, symbol_place}
use Rattle.elf_object.specs.Lent.{symbol_value, symbol_size, place_numbered}
use Rattle.elf_records.specs.Symbols.{type_numbered}
use Rattle.elf_object.specs.Lawful.{IsPlaced, IsShared}
use Rattle.elf_object.specs.Faults.{Stands, IsObject, IsSymbol}

-- whether n is the number of one of c sections
is_below : (s c : ℕ) → (0 < s) × (s < c) → (nat_lt 0 s && nat_lt s c) ≡ true
is_below s c h = grind (arith, nat_tests)

-- the part of a section that exists
pub class_of_section : (b : List ℕ) (s : ℕ) → IsSection b s → section_class b s ≡ kept_class (section b s)
unfolding section_class
class_of_section b s within = rw (is_below s (header b).e_shnum within) refl

pub size_of_section : (b : List ℕ) (s : ℕ) → IsSection b s → section_size b s ≡ (section b s).size
unfolding section_size
size_of_section b s within = rw (is_below s (header b).e_shnum within) refl

-- a section with this number exists or not, and linking keeps it or not
pub section_or_not : (b : List ℕ) (s : ℕ) → IsSection b s ⊎ (IsSection b s → ⊥)
section_or_not b s = within s (header b).e_shnum
  where
    within : (s n : ℕ) → ((0 < s) × (s < n)) ⊎ ((0 < s) × (s < n) → ⊥)
    within s n = grind arith

pub some_or_not : (class : Option SectionClass) → IsSome class ⊎ (IsSome class → ⊥)
some_or_not None = inr (λ h. cc)
some_or_not (Some class) = inl refl

tls_or_not : (class : Option SectionClass) → IsTls class ⊎ (IsTls class → ⊥)
tls_or_not None = inr (λ h. h)
tls_or_not (Some Executable) = inr (λ h. h)
tls_or_not (Some ReadOnly) = inr (λ h. h)
tls_or_not (Some (Tls initial)) = inl tt
tls_or_not (Some (Writable initial)) = inr (λ h. h)

-- a symbol other than the reserved one
above_of : (e : ℕ) → 0 < e → nat_lt 0 e ≡ true
above_of e h = grind (arith, nat_tests)

has_table : (t n e : ℕ) → e < (if nat_lt 0 t then n else 0) → 0 < t
has_table t n e h = grind (arith, nat_tests)

pub is_symbol : (b : List ℕ) (e : ℕ) → 0 < e → e < symbol_count b → IsSymbol b (symbol_table b) e
is_symbol b e above below = (
  has_table (symbol_table b) ((section b (symbol_table b)).size / 24) e below,
  refl,
  above,
  below,
)

-- a symbol's place in a section has that section's number
place_in : (n s : ℕ) → place_numbered n ≡ InSection s → (n ≡ s) × (n ≢ 0) × (n ≢ 0xfff1)
place_in n s h = place_cases (n == 0) (n == 0xfff1) n s h (zero_or n) (abs_or n)
  where
    zero_or : (n : ℕ) → (n == 0) ≡ false → n ≢ 0
    zero_or n h = grind (arith, nat_tests)

    abs_or : (n : ℕ) → (n == 0xfff1) ≡ false → n ≢ 0xfff1
    abs_or n h = grind (arith, nat_tests)

    place_cases : (zero abs : Bool) (n s : ℕ)
        → (if zero then Undefined else if abs then Absolute else InSection n) ≡ InSection s
        → (zero ≡ false → n ≢ 0) → (abs ≡ false → n ≢ 0xfff1) → (n ≡ s) × (n ≢ 0) × (n ≢ 0xfff1)
    place_cases true abs n s h a b = absurd (cc)
    place_cases false true n s h a b = absurd (cc)
    place_cases false false n s h a b = (cc, a refl, b refl)

pub place_is : (b : List ℕ) (e s : ℕ) → symbol_place b e ≡ InSection s
    → (0 < e) × ((symbol b e).shndx ≡ s) × ((symbol b e).shndx ≢ 0) × ((symbol b e).shndx ≢ 0xfff1)
unfolding symbol_place
place_is b e s h = of_place (nat_lt 0 e) e (symbol b e).shndx s h (above e)
  where
    above : (e : ℕ) → nat_lt 0 e ≡ true → 0 < e
    above e h = grind (arith, nat_tests)

    of_place : (t : Bool) (e n s : ℕ) → (if t then place_numbered n else Undefined) ≡ InSection s
        → (t ≡ true → 0 < e) → (0 < e) × (n ≡ s) × (n ≢ 0) × (n ≢ 0xfff1)
    of_place true e n s h a = let found = place_in n s h in (a refl, found.0, found.1, found.2)
    of_place false e n s h a = absurd (cc)

pub place_absolute : (b : List ℕ) (e : ℕ) → symbol_place b e ≡ Absolute → (symbol b e).shndx ≡ 0xfff1
unfolding symbol_place
place_absolute b e h = of_place (nat_lt 0 e) ((symbol b e).shndx == 0) ((symbol b e).shndx == 0xfff1)
    (symbol b e).shndx h (same (symbol b e).shndx)
  where
    same : (n : ℕ) → (n == 0xfff1) ≡ true → n ≡ 0xfff1
    same n h = grind (arith, nat_tests)

    of_place : (t zero abs : Bool) (n : ℕ)
        → (if t then (if zero then Undefined else if abs then Absolute else InSection n) else Undefined) ≡ Absolute
        → (abs ≡ true → n ≡ 0xfff1) → n ≡ 0xfff1
    of_place true true abs n h a = absurd (cc)
    of_place true false true n h a = a refl
    of_place true false false n h a = absurd (cc)
    of_place false zero abs n h a = absurd (cc)

-- what a type says of its number, of those that thread-local storage has or may not have; its own begin at 5
abbrev Numbers : SymbolType → ℕ → Type 0
Numbers Func n = n ≡ 2
Numbers File n = n ≡ 4
Numbers ThreadLocal n = 5 ≤ n
Numbers type n = Unit {0}

numbers : (n : ℕ) (type : SymbolType) → type_numbered n ≡ type → Numbers type n
numbers n type h =
    subst (λ t. Numbers t n) h (of_type (n == 0) (n == 1) (n == 2) (n == 3) (n == 4) n (second n) (fourth n) (large n))
  where
    second : (n : ℕ) → (n == 2) ≡ true → n ≡ 2
    second n h = grind (arith, nat_tests)

    fourth : (n : ℕ) → (n == 4) ≡ true → n ≡ 4
    fourth n h = grind (arith, nat_tests)

    large : (n : ℕ) → (n == 0) ≡ false → (n == 1) ≡ false → (n == 2) ≡ false → (n == 3) ≡ false
        → (n == 4) ≡ false → 5 ≤ n
    large n a b c d e = grind (arith, nat_tests)

    of_type : (a b c d e : Bool) (n : ℕ) → (c ≡ true → n ≡ 2) → (e ≡ true → n ≡ 4)
        → (a ≡ false → b ≡ false → c ≡ false → d ≡ false → e ≡ false → 5 ≤ n)
        → Numbers (if a then NoType else if b then Object else if c then Func else if d then Section else if e then File
        else ThreadLocal) n
    of_type true b c d e n two four more = tt
    of_type false true c d e n two four more = tt
    of_type false false true d e n two four more = two refl
    of_type false false false true e n two four more = tt
    of_type false false false false true n two four more = four refl
    of_type false false false false false n two four more = more refl refl refl refl refl

type_of : (b : List ℕ) (e : ℕ) → 0 < e → symbol_type b e ≡ type_numbered (type_number (symbol b e))
unfolding symbol_type
type_of b e above = rw (above_of e above) refl

-- the section in which a symbol is defined exists
section_at : (b : List ℕ) → IsObject b → (e : ℕ) → 0 < e → e < symbol_count b → (symbol b e).shndx ≢ 0
    → (symbol b e).shndx ≢ 0xfff1 → IsSection b (symbol b e).shndx
unfolding Stands
section_at b object e above below defined relative =
    elim (section_or_not b (symbol b e).shndx) [
      | inl within ↦ within
      | inr none ↦ absurd (object SymbolSection (symbol_table b) e
          (is_symbol b e above below, inl (defined, relative, none)))
    ]

-- if linking keeps that section, the symbol is inside it
inside_at : (b : List ℕ) → IsObject b → (e : ℕ) → 0 < e → e < symbol_count b → IsSection b (symbol b e).shndx
    → IsSome (section_class b (symbol b e).shndx)
    → symbol_value b e + symbol_size b e ≤ section_size b (symbol b e).shndx
unfolding Stands symbol_value symbol_size
inside_at b object e above below within some =
    let s = (symbol b e).shndx in
    let kept : IsKeptSection b s = (within, rw (← class_of_section b s within) some) in
    rw (above_of e above, size_of_section b s within)
    (elim (cases_lt (section b s).size ((symbol b e).value + (symbol b e).size)) [
      | inl past ↦ absurd (object SymbolRange (symbol_table b) e (is_symbol b e above below, kept, past))
      | inr fits ↦ fits
    ])

-- a section of thread-local storage has no functions
no_code_at : (b : List ℕ) → IsObject b → (e : ℕ) → 0 < e → e < symbol_count b → IsSection b (symbol b e).shndx
    → IsTls (section_class b (symbol b e).shndx) → (symbol_type b e ≢ Func) × (symbol_type b e ≢ File)
unfolding Stands
no_code_at b object e above below within tls =
    let s = (symbol b e).shndx in
    let kept : IsTls (kept_class (section b s)) = rw (← class_of_section b s within) tls in (
      λ func. object SymbolKind (symbol_table b) e (
        is_symbol b e above below,
        inr
            (inr (inl ((within, kept), inl (numbers _ Func (sym (type_of b e above) ∙ func))))),
      ),
      λ file. object SymbolKind (symbol_table b) e (
        is_symbol b e above below,
        inr
            (inr (inl ((within, kept), inr (numbers _ File (sym (type_of b e above) ∙ file))))),
      ),
    )

-- a symbol of thread-local storage is defined in a section of it
tls_at : (b : List ℕ) → IsObject b → (e : ℕ) → 0 < e → e < symbol_count b → IsSection b (symbol b e).shndx
    → (symbol b e).shndx ≢ 0
    → symbol_type b e ≡ ThreadLocal → IsTls (section_class b (symbol b e).shndx)
unfolding Stands
tls_at b object e above below within defined tls =
    let s = (symbol b e).shndx in
    let n = type_number (symbol b e) in
    let fault = object SymbolKind (symbol_table b) e in
    let large = numbers n ThreadLocal (sym (type_of b e above) ∙ tls) in
    elim (tls_or_not (kept_class (section b s))) [
      | inl kept ↦ rw (class_of_section b s within) kept
      | inr other ↦ absurd (elim (kinds n large) [
        | inl six ↦ fault (is_symbol b e above below, inr (inr (inr (six, defined, λ here. other here.1))))
        | inr unknown ↦ fault (is_symbol b e above below, inr (inl unknown))
      ])
    ]
  where
    kinds : (n : ℕ) → 5 ≤ n → (n ≡ 6) ⊎ ((n ≡ 5) ⊎ (6 < n))
    kinds n h = grind arith

-- what callers may rely on in a symbol
pub placed : (b : List ℕ) → IsObject b → (e : ℕ) → e < symbol_count b → IsPlaced b e
placed b object e below = record {
  section = λ s at.
      let p = place_is b e s at in
      let P : ℕ → Type 0 = λ x. IsSection b x in
      subst P p.1 (section_at b object e p.0 below p.2 p.3);
  inside = λ s at.
      let p = place_is b e s at in
      let P : ℕ → Type 0 = λ x. IsSome (section_class b x) → symbol_value b e + symbol_size b e ≤ section_size b x in
      subst P p.1 (inside_at b object e p.0 below (section_at b object e p.0 below p.2 p.3));
  no_code = λ s at.
      let p = place_is b e s at in
      let P : ℕ → Type 0 = λ x. IsTls (section_class b x) → (symbol_type b e ≢ Func) × (symbol_type b e ≢ File) in
      subst P p.1 (no_code_at b object e p.0 below (section_at b object e p.0 below p.2 p.3));
  thread_local = λ s tls at.
      let p = place_is b e s at in
      let P : ℕ → Type 0 = λ x. IsTls (section_class b x) in
      subst P p.1 (tls_at b object e p.0 below (section_at b object e p.0 below p.2 p.3) p.2 tls);
}

-- a symbol that is not LOCAL
binding_of : (b : List ℕ) (e : ℕ) → symbol_binding b e ≢ Local → (0 < e) × (binding_number (symbol b e) ≢ 0)
unfolding symbol_binding
binding_of b e shared = of_binding (nat_lt 0 e) (binding_number (symbol b e) == 0)
    (binding_number (symbol b e) == 1) e (binding_number (symbol b e)) shared (above e)
    (other (binding_number (symbol b e)))
  where
    above : (e : ℕ) → nat_lt 0 e ≡ true → 0 < e
    above e h = grind (arith, nat_tests)

    other : (n : ℕ) → (n == 0) ≡ false → n ≢ 0
    other n h = grind (arith, nat_tests)

    of_binding : (t a b : Bool) (e n : ℕ)
        → (if t then (if a then Local else if b then Global else Weak) else Local) ≢ Local
        → (t ≡ true → 0 < e) → (a ≡ false → n ≢ 0) → (0 < e) × (n ≢ 0)
    of_binding true false b e n h k l = (k refl, l refl)
    of_binding true true b e n h k l = absurd (h refl)
    of_binding false a b e n h k l = absurd (h refl)

-- is GLOBAL or WEAK
global_or_weak : (b : List ℕ) → IsObject b → (e : ℕ) → 0 < e → e < symbol_count b → binding_number (symbol b e) ≢ 0
    → (binding_number (symbol b e) ≡ 1) ⊎ (binding_number (symbol b e) ≡ 2)
unfolding Stands
global_or_weak b object e above below other =
    elim (bindings (binding_number (symbol b e)) other) [
      | inl known ↦ known
      | inr unknown ↦ absurd (object SymbolKind (symbol_table b) e (is_symbol b e above below, inl unknown))
    ]
  where
    bindings : (n : ℕ) → n ≢ 0 → ((n ≡ 1) ⊎ (n ≡ 2)) ⊎ (2 < n)
    bindings n h = grind arith

-- it has no absolute value
not_absolute : (b : List ℕ) → IsObject b → (e : ℕ) → e < symbol_count b → symbol_binding b e ≢ Local
    → symbol_place b e ≢ Absolute
unfolding Stands
not_absolute b object e below shared absolute =
    let known = binding_of b e shared in
    let binding = global_or_weak b object e known.0 below known.1 in
    object SymbolSection (symbol_table b) e (
      is_symbol b e known.0 below,
      inr
          (inr (binding, inl (place_absolute b e absolute))),
    )

-- it is not in a section that linking drops
kept_at : (b : List ℕ) → IsObject b → (e : ℕ) → 0 < e → e < symbol_count b → binding_number (symbol b e) ≢ 0
    → IsSection b (symbol b e).shndx
    → IsSome (section_class b (symbol b e).shndx)
unfolding Stands
kept_at b object e above below other within =
    let s = (symbol b e).shndx in
    elim (some_or_not (kept_class (section b s))) [
      | inl kept ↦ rw (class_of_section b s within) kept
      | inr dropped ↦ absurd (object SymbolSection (symbol_table b) e
          (is_symbol b e above below, inr (inr (global_or_weak b object e above below other, inr (within, dropped)))))
    ]

-- what callers may rely on in a symbol that is not LOCAL
pub shared : (b : List ℕ) → IsObject b → (e : ℕ) → e < symbol_count b → symbol_binding b e ≢ Local → IsShared b e
shared b object e below other = record {
  relative = not_absolute b object e below other;
  kept = λ s at.
      let p = place_is b e s at in
      let known = binding_of b e other in
      let P : ℕ → Type 0 = λ x. IsSome (section_class b x) in
      subst P p.1 (kept_at b object e p.0 below known.1 (section_at b object e p.0 below p.2 p.3));
}

-- What an object that reads as a shape defines.
use Rattle.std.proofs.Common.{◌≡◌, ◌-◌, ◌<◌, ◌∙◌, ℕ, Bool, true, false, List, Option, Some, None, length, refl, ap}
use Rattle.std.proofs.Common.{arith}
use Rattle.std.specs.Prelude.{if◌then◌else◌}
use Rattle.std.specs.List.{find, range_with_len}
use Rattle.std.specs.Str.{bytes_eq}
use Rattle.elf_records.specs.declared.symbol.SymbolBinding.{SymbolBinding}
use Rattle.elf_records.specs.declared.symbol.SymbolBinding.TheVariants.{Global, Weak}
use Rattle.elf_object.specs.declared.symbol.SymbolPlace.TheVariants.{Undefined, InSection}
use Rattle.elf_object.specs.Lent.{symbol_binding, symbol_name, symbol_place}
use Rattle.elf_object.specs.Parts.{symbol_count}
use Rattle.elf_records.specs.Symbols.{get_address}
use Rattle.tls_symbols.specs.Definitions.{defines, first_in}
use Rattle.generated_job.specs.Shapes.{Shape}
use Rattle.generated_laws.specs.Reading.{ReadsAs, known_of}

-- the run time's function, where it is called
pub record HasGetter (b : List ℕ) : Type 0 where
  pub count : symbol_count b ≡ 4
  pub name : symbol_name b 3 ≡ get_address
  pub binding : symbol_binding b 3 ≡ Global
  pub place : symbol_place b 3 ≡ Undefined

-- the symbols of an object: its function, its variable, and what it calls
pub record HasSymbols (b : List ℕ) (s : Shape) : Type 0 where
  pub function_name : symbol_name b 1 ≡ s.function
  pub function_binding : symbol_binding b 1 ≡ Global
  pub function_place : symbol_place b 1 ≡ InSection 1
  pub variable_name : symbol_name b 2 ≡ s.variable
  pub variable_binding : symbol_binding b 2 ≡ Global
  pub variable_place : symbol_place b 2 ≡ InSection 3
  pub getter : s.calls ≡ true → HasGetter b
  pub no_getter : s.calls ≡ false → symbol_count b ≡ 3

known_above : (s : Shape) → 2 < length (known_of s)
unfolding known_of
known_above s = omega arith

known_three : (s : Shape) → s.calls ≡ false → length (known_of s) ≡ 3
unfolding known_of
known_three s silent = rw silent refl

known_four : (s : Shape) → s.calls ≡ true → length (known_of s) ≡ 4
unfolding known_of
known_four s calls = rw calls refl

getter_is : (b : List ℕ) (s : Shape) → ReadsAs b s → s.calls ≡ true → HasGetter b
unfolding known_of
getter_is b s reads calls =
    let four = known_four s calls in
    let within : 3 < length (known_of s) = omega (arith, four) in
    record {
      count = reads.count ∙ four;
      name = reads.names 3 within ∙ (rw calls refl);
      binding = reads.bindings 3 within ∙ (rw calls refl);
      place = reads.placed 3 within ∙ (rw calls refl);
    }

pub symbols_are : (b : List ℕ) (s : Shape) → ReadsAs b s → HasSymbols b s
unfolding known_of
symbols_are b s reads =
    let two = known_above s in
    let one : 1 < length (known_of s) = omega (arith, two) in
    record {
      function_name = reads.names 1 one;
      function_binding = reads.bindings 1 one;
      function_place = reads.placed 1 one;
      variable_name = reads.names 2 two;
      variable_binding = reads.bindings 2 two;
      variable_place = reads.placed 2 two;
      getter = getter_is b s reads;
      no_getter = λ silent. reads.count ∙ known_three s silent;
    }

-- ** the first symbol that defines a name

-- the function, if the name is its own, else the variable, if it is that one's
abbrev pub defined_by : Shape → List ℕ → Option ℕ
defined_by s name = if bytes_eq name s.function then Some 1 else (if bytes_eq name s.variable then Some 2 else None)

find_two : (P : ℕ → Bool) (p q : Bool) → P 1 ≡ p → P 2 ≡ q
    → find P (range_with_len 1 2) ≡ (if p then Some 1 else (if q then Some 2 else None))
find_two P p q first second = rw (first, second) refl

find_three : (P : ℕ → Bool) (p q : Bool) → P 1 ≡ p → P 2 ≡ q → P 3 ≡ false
    → find P (range_with_len 1 3) ≡ (if p then Some 1 else (if q then Some 2 else None))
find_three P p q first second third = rw (first, second, third) refl

module _ (b : List ℕ) (s : Shape) (reads : ReadsAs b s) (name : List ℕ) where
  has : HasSymbols b s
  has = symbols_are b s reads

  -- with a binding that passes for each of the three symbols
  first_of_three : (binding : SymbolBinding) (p q : Bool) → defines b binding name 1 ≡ p → defines b binding name 2 ≡ q
      → (HasGetter b → defines b binding name 3 ≡ false)
      → first_in binding name b ≡ (if p then Some 1 else (if q then Some 2 else None))
  unfolding first_in
  first_of_three binding p q first second third = by s.calls refl
    where
      by : (t : Bool) → s.calls ≡ t
          → find (defines b binding name) (range_with_len 1 (symbol_count b - 1))
          ≡ (if p then Some 1 else (if q then Some 2 else None))
      by true calls =
          let getter = has.getter calls in
          ap (λ n. find (defines b binding name) (range_with_len 1 (n - 1))) getter.count
          ∙ find_three (defines b binding name) p q first second (third getter)
      by false silent =
          ap (λ n. find (defines b binding name) (range_with_len 1 (n - 1))) (has.no_getter silent)
          ∙ find_two (defines b binding name) p q first second

  pub strong_in : first_in Global name b ≡ defined_by s name
  strong_in =
      first_of_three Global (bytes_eq name s.function) (bytes_eq name s.variable)
      (rw (has.function_binding, has.function_place, has.function_name) refl)
      (rw (has.variable_binding, has.variable_place, has.variable_name) refl)
      (λ getter. rw (getter.binding, getter.place) refl)

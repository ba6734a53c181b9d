-- What the tables tell of a name, by its number.
use Rattle.std.proofs.Common.{◌≡◌, ◌≤◌, ◌∙◌, ℕ, Bool, true, false, cond, List, Option, Some, None, length, refl, sym}
use Rattle.std.proofs.Common.{ap, subst, arith}
use Rattle.std.specs.Prelude.{◌==◌, nat_lt, if◌then◌else◌}
use Rattle.std.specs.List.{position}
use Rattle.std.specs.Str.{bytes_eq}
use Rattle.std.proofs.lemmas.Bool.Decides.{nat_tests}
use Rattle.std.proofs.lemmas.List.{get_or_past}
use Rattle.std.proofs.lemmas.Slice.Eq.{bytes_eq-Decides}
use Rattle.std.specs.Option.{option_or}
use Rattle.elf_records.specs.declared.symbol.SymbolBinding.TheVariants.{Local, Global, Weak}
use Rattle.elf_object.specs.Lent.{symbol_binding, symbol_name}
use Rattle.link_faults.specs.declared.binding.Binding.{Binding}
use Rattle.link_faults.specs.declared.binding.Binding.TheVariants.{Runtime}
use Rattle.tls_symbols.specs.declared.numbers.KnownSymbol.{KnownSymbol}
use Rattle.link_faults.specs.declared.symbol_ref.SymbolRef.{SymbolRef}
use Rattle.tls_symbols.specs.Bindings.{here_or, name_bound, of_startup}
use Rattle.elf_records.specs.Symbols.{get_address}
use Rattle.tls_symbols.specs.Definitions.{definition_of, first_from, or_weak, same_binding}
use Rattle.tls_symbols.specs.Numbers.{Names, KnowsNames, IsNamed, IsNumbered, number_of, IsNumberOf, at_number, told}
use Rattle.tls_symbols.proofs.Told.{same_number}

-- a symbol whose name has a number
pub record NumberedName (names : Names) (b : List ℕ) (e n : ℕ) : Type 0 where
  pub shared : same_binding Local (symbol_binding b e) ≡ false
  pub number : IsNumberOf names (symbol_name b e) n

pub numbered_name : (names : Names) (b : List ℕ) (e : ℕ) (known : KnownSymbol) (n : ℕ) → IsNumbered names b e known
    → known.name ≡ Some n → NumberedName names b e n
numbered_name names b e known n is some =
    let named : IsNamed names b e (Some n) = subst (IsNamed names b e) some is.name in
    record { shared = named.0; number = named.1 }

pub or_else_weak : (strong weak : Option SymbolRef) → option_or strong weak ≡ or_weak strong weak
or_else_weak (Some x) weak = refl
or_else_weak None weak = refl

module _ (objects : List (List ℕ)) (startup : List (List (List ℕ))) (names : Names) (numbers : List (List KnownSymbol))
    (strong weak : List (Option SymbolRef)) (imported : List (Option ℕ))
    (known : KnowsNames objects startup names numbers strong weak imported) where
  pub known_told : (name : List ℕ)
      → option_or (told names strong name) (told names weak name) ≡ definition_of objects name
  unfolding definition_of
  known_told name =
      ap (λ s. option_or s (told names weak name)) (known.strongly.tells name)
      ∙ ap (λ w. option_or (first_from Global name 0 objects) w) (known.weakly.tells name)
      ∙ or_else_weak (first_from Global name 0 objects) (first_from Weak name 0 objects)

  -- the definition of a name, by its number
  pub known_definition : (name : List ℕ) (n : ℕ) → n ≡ number_of names name
      → option_or (at_number strong n) (at_number weak n) ≡ definition_of objects name
  known_definition name n e = ap (λ m. option_or (at_number strong m) (at_number weak m)) e ∙ known_told name

  -- a name that is not among them has none
  pub known_none : (name : List ℕ) → length names ≤ number_of names name → None ≡ definition_of objects name
  known_none name past =
      sym (ap (λ s. option_or s (told names weak name))
      (get_or_past strong (number_of names name) None (omega (arith, known.strongly.len)))
      ∙ get_or_past weak (number_of names name) None (omega (arith, known.weakly.len)))
      ∙ known_told name

  -- number 0 is that of the run time's function
  pub known_run_time : (name : List ℕ) (n : ℕ) → IsNumberOf names name n → (n == 0) ≡ bytes_eq name get_address
  known_run_time name n is = by_test (bytes_eq name get_address) refl
    where
      zero_is : (m : ℕ) → m ≡ 0 → (m == 0) ≡ true
      zero_is m h = grind (arith, nat_tests)

      other_is : (m : ℕ) → (m ≡ 0 → ⊥) → (m == 0) ≡ false
      other_is m h = grind (arith, nat_tests)

      by_test : (t : Bool) → bytes_eq name get_address ≡ t → (n == 0) ≡ t
      by_test true same =
          zero_is n (is.number ∙ ap (number_of names) ((bytes_eq-Decides name get_address).0 same)
          ∙ sym known.run_time.number)
      by_test false other =
          other_is n (λ h.
          (let same : get_address ≡ name = same_number names get_address name 0 known.run_time (sym h ∙ is.number) in
          let equal : bytes_eq name get_address ≡ true = (bytes_eq-Decides name get_address).1 (sym same) in
          cc))

  -- what a name is bound to, by its number
  pub known_binding : (name : List ℕ) (n : ℕ) (imports : Bool) → IsNumberOf names name n
      → (if n == 0 then Some Runtime
      else here_or (option_or (at_number strong n) (at_number weak n))
      (if imports then of_startup (at_number imported n) else None))
      ≡ name_bound objects startup imports name
  known_binding name n imports is =
      let rest : Option Binding =
      here_or (option_or (at_number strong n) (at_number weak n))
      (if imports then of_startup (at_number imported n) else None) in
      ap (λ t. if t then Some Runtime
      else here_or (option_or (at_number strong n) (at_number weak n))
      (if imports then of_startup (at_number imported n) else None)) (known_run_time name n is)
      ∙ ap (λ d. if bytes_eq name get_address then Some Runtime
      else here_or d (if imports then of_startup (at_number imported n) else None)) (known_definition name n is.number)
      ∙ ap (λ i. if bytes_eq name get_address then Some Runtime
      else here_or (definition_of objects name) (if imports then of_startup i else None))
      (ap (at_number imported) is.number ∙ known.exports.tells name)

-- what a search for a name answers
pub position_some : (names : Names) (name : List ℕ) (n : ℕ) → position (λ k. bytes_eq name k.now) names ≡ Some n
    → n ≡ number_of names name
position_some names name n e = of_test (nat_lt (number_of names name) (length names)) e
  where
    of_test : (t : Bool) → cond t (Some (number_of names name)) None ≡ Some n → n ≡ number_of names name
    of_test true e = cc
    of_test false e = cc

pub position_none : (names : Names) (name : List ℕ) → position (λ k. bytes_eq name k.now) names ≡ None
    → length names ≤ number_of names name
position_none names name e = of_test (nat_lt (number_of names name) (length names)) refl e
  where
    past : (m n : ℕ) → nat_lt m n ≡ false → n ≤ m
    past m n h = grind (arith, nat_tests)

    of_test : (t : Bool) → nat_lt (number_of names name) (length names) ≡ t
        → cond t (Some (number_of names name)) None ≡ None → length names ≤ number_of names name
    of_test true h e = cc
    of_test false h e = past (number_of names name) (length names) h

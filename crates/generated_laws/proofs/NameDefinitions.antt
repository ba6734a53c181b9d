-- What names are bound to, where each object reads as a shape and no two names are the same.
use Rattle.std.proofs.Common.{◌≡◌, ◌≢◌, ◌+◌, ◌<◌, ◌∙◌, ℕ, zero, suc, true, false, List, [], ◌∷◌, Some, None, length}
use Rattle.std.proofs.Common.{refl, sym, ap, arith}
use Rattle.std.specs.Prelude.{slice_index_or}
use Rattle.std.specs.Str.{bytes_eq}
use Rattle.std.proofs.lemmas.Bool.{false_from_ne_true}
use Rattle.std.proofs.lemmas.Slice.Eq.{bytes_eq-Decides}
use Rattle.elf_object.specs.declared.relocation.Relocation.{Relocation}
use Rattle.elf_records.specs.declared.symbol.SymbolBinding.{SymbolBinding}
use Rattle.elf_records.specs.declared.symbol.SymbolBinding.TheVariants.{Global}
use Rattle.link_faults.specs.declared.binding.Binding.TheVariants.{Here, Runtime}
use Rattle.tls_symbols.specs.Bindings.{binding_of, bound_to, is_tls_symbol, object_at}
use Rattle.elf_records.specs.Symbols.{get_address}
use Rattle.tls_symbols.specs.Definitions.{definition_of, first_from, first_in}
use Rattle.tls_symbols.proofs.Numbered.{same_name}
use Rattle.generated_job.specs.Shapes.{Shape}
use Rattle.generated_laws.proofs.KindPlain.{ReadAsShapes}
use Rattle.generated_laws.proofs.NameSymbols.{HasSymbols, defined_by, strong_in, symbols_are}

-- no two names are the same
pub record AreApart (objects : List (List ℕ)) (shape : ℕ → Shape) : Type 0 where
  pub functions : (o p : ℕ) → o < length objects → p < length objects → (shape o).function ≡ (shape p).function → o ≡ p
  pub variables : (o p : ℕ) → o < length objects → p < length objects → (shape o).variable ≡ (shape p).variable → o ≡ p
  pub mixed : (o p : ℕ) → o < length objects → p < length objects → (shape o).function ≢ (shape p).variable
  pub function_named : (o : ℕ) → o < length objects → (shape o).function ≢ get_address
  pub variable_named : (o : ℕ) → o < length objects → (shape o).variable ≢ get_address

pub differs : (x y : List ℕ) → x ≢ y → bytes_eq x y ≡ false
differs x y other = false_from_ne_true (bytes_eq x y) (λ e. other ((bytes_eq-Decides x y).0 e))

-- a name is found where the first of these objects has it
first_from_at : (binding : SymbolBinding) (name : List ℕ) (more : List (List ℕ)) (o k e : ℕ) → k < length more
    → first_in binding name (slice_index_or more k []) ≡ Some e
    → ((j : ℕ) → j < k → first_in binding name (slice_index_or more j []) ≡ None)
    → first_from binding name o more ≡ Some (record { object = o + k; symbol = e })
first_from_at binding name [] o k e h here earlier = absurd (omega (arith, h))
first_from_at binding name (b ∷ more) o zero e h here earlier =
    let same : o ≡ o + 0 = omega arith in rw here (ap (λ p. Some (record { object = p; symbol = e })) same)
first_from_at binding name (b ∷ more) o (suc k) e h here earlier =
    let same : o + 1 + k ≡ o + suc k = omega arith in
    rw (earlier 0 (omega arith))
    (first_from_at binding name more (o + 1) k e (omega (arith, h)) here
    (λ j less. earlier (suc j) (omega (arith, less)))
    ∙ ap (λ p. Some (record { object = p; symbol = e })) same)

module _ (objects : List (List ℕ)) (shape : ℕ → Shape) (given : ReadAsShapes objects shape)
    (apart : AreApart objects shape) where
  symbols_at : (o : ℕ) → o < length objects → HasSymbols (object_at objects o) (shape o)
  symbols_at o there = symbols_are (object_at objects o) (shape o) (given.reads o there)

  strong_at : (o : ℕ) → o < length objects → (name : List ℕ)
      → first_in Global name (object_at objects o) ≡ defined_by (shape o) name
  strong_at o there name = strong_in (object_at objects o) (shape o) (given.reads o there) name

  neither : (o : ℕ) (name : List ℕ) → name ≢ (shape o).function → name ≢ (shape o).variable
      → defined_by (shape o) name ≡ None
  neither o name other another =
      rw (differs name (shape o).function other, differs name (shape o).variable another) refl

  -- each name is bound to the symbol that has it
  pub function_definition : (o : ℕ) → o < length objects
      → definition_of objects (shape o).function ≡ Some (record { object = o; symbol = 1 })
  unfolding definition_of
  function_definition o there =
      rw (first_from_at Global name objects 0 o 1 there here earlier)
      (ap (λ p. Some (record { object = p; symbol = 1 })) same)
    where
      name : List ℕ
      name = (shape o).function

      same : 0 + o ≡ o
      same = omega arith

      here : first_in Global name (object_at objects o) ≡ Some 1
      here = strong_at o there name ∙ (rw (same_name name) refl)

      earlier : (j : ℕ) → j < o → first_in Global name (object_at objects j) ≡ None
      earlier j less =
          let within : j < length objects = omega (arith, less, there) in
          strong_at j within name
          ∙ neither j name (λ e. (let is : o ≡ j = apart.functions o j there within e in omega (arith, is, less)))
          (apart.mixed o j there within)

  pub variable_definition : (o : ℕ) → o < length objects
      → definition_of objects (shape o).variable ≡ Some (record { object = o; symbol = 2 })
  unfolding definition_of
  variable_definition o there =
      rw (first_from_at Global name objects 0 o 2 there here earlier)
      (ap (λ p. Some (record { object = p; symbol = 2 })) same)
    where
      name : List ℕ
      name = (shape o).variable

      same : 0 + o ≡ o
      same = omega arith

      here : first_in Global name (object_at objects o) ≡ Some 2
      here = strong_at o there name
          ∙ (rw (differs name (shape o).function (λ e. apart.mixed o o there there (sym e)), same_name name) refl)

      earlier : (j : ℕ) → j < o → first_in Global name (object_at objects j) ≡ None
      earlier j less =
          let within : j < length objects = omega (arith, less, there) in
          strong_at j within name
          ∙ neither j name (λ e. apart.mixed j o within there (sym e))
          (λ e. (let is : o ≡ j = apart.variables o j there within e in omega (arith, is, less)))

  -- what relocations are bound to
  module _ (startup : List (List (List ℕ))) where
    pub variable_bound : (o : ℕ) (r : Relocation) → o < length objects → r.symbol ≡ 2
        → binding_of objects startup o r ≡ Some (Here (record { object = o; symbol = 2 }))
    unfolding bound_to
    variable_bound o r there is =
        let own = symbols_at o there in
        rw (
          is,
          own.variable_binding,
          own.variable_name,
          differs (shape o).variable get_address (apart.variable_named o there),
          variable_definition o there,
        ) refl

    pub getter_bound : (o : ℕ) (r : Relocation) → o < length objects → r.symbol ≡ 3 → (shape o).calls ≡ true
        → binding_of objects startup o r ≡ Some Runtime
    unfolding bound_to
    getter_bound o r there is calls =
        let getter = (symbols_at o there).getter calls in
        rw (is, getter.binding, getter.name) refl

  -- the variable is thread-local
  pub variable_is_tls : (o : ℕ) → o < length objects → is_tls_symbol (object_at objects o) 2 ≡ true
  variable_is_tls o there = rw ((symbols_at o there).variable_place, (given.reads o there).initial_class) refl

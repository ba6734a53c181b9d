-- Names of objects that read as plain shapes have no fault, where no two are the same.
use Rattle.std.proofs.Common.{◌≡◌, ◌<◌, ◌∙◌, ℕ, zero, suc, Bool, true, false, List, length, inl, inr, nat_eq, refl, sym}
use Rattle.std.proofs.Common.{arith}
use Rattle.std.proofs.lemmas.Bool.{and_right, eq-eqb}
use Rattle.elf_object.specs.declared.relocation.Relocation.{Relocation}
use Rattle.elf_object.specs.Parts.{symbol_count}
use Rattle.link_faults.specs.declared.fault.LinkFaultKind.TheVariants.{Undefined, Duplicate, NotTls}
use Rattle.tls_symbols.proofs.FirstFaults.{impossible}
use Rattle.tls_symbols.specs.Bindings.{binding_of, object_at}
use Rattle.elf_records.specs.Symbols.{get_address}
use Rattle.tls_symbols.specs.Faults.{AreResolved, Stands, is_duplicate, is_faulty, is_mismatched, names_symbol}
use Rattle.generated_job.specs.Shapes.{Shape}
use Rattle.generated_laws.proofs.KindPlain.{ReadAsShapes, Suits, none_charged}
use Rattle.generated_laws.proofs.NameSymbols.{HasGetter, HasSymbols, symbols_are}
use Rattle.generated_laws.proofs.NameDefinitions.{AreApart, differs, function_definition, getter_bound, variable_bound}
use Rattle.generated_laws.proofs.NameDefinitions.{variable_definition, variable_is_tls}

module _ (objects : List (List ℕ)) (shape : ℕ → Shape) (given : ReadAsShapes objects shape)
    (apart : AreApart objects shape) where
  module _ (startup : List (List (List ℕ))) where
    -- each relocation has a binding, and one that suits it
    never_unbound : (o : ℕ) → o < length objects → (r : Relocation) → Suits (shape o).calls r
        → is_faulty Undefined objects startup o r ≡ false
    never_unbound o there r (inl own) =
        rw (variable_bound objects shape given apart startup o r there own.0)
        (and_right (names_symbol r.kind) false refl)
    never_unbound o there r (inr called) =
        rw (getter_bound objects shape given apart startup o r there called.0 called.1)
        (and_right (names_symbol r.kind) false refl)

    never_unsuited : (o : ℕ) → o < length objects → (r : Relocation) → Suits (shape o).calls r
        → is_faulty NotTls objects startup o r ≡ false
    never_unsuited o there r (inl own) =
        and_right (names_symbol r.kind) (is_mismatched objects r.kind (binding_of objects startup o r))
        (rw (
          variable_bound objects shape given apart startup o r there own.0,
          own.1,
          variable_is_tls objects shape given apart o there,
        ) refl)
    never_unsuited o there r (inr called) =
        and_right (names_symbol r.kind) (is_mismatched objects r.kind (binding_of objects startup o r))
        (rw (getter_bound objects shape given apart startup o r there called.0 called.1, called.2) refl)

  -- no symbol is a duplicate
  module _ (o : ℕ) (there : o < length objects) where
    own : HasSymbols (object_at objects o) (shape o)
    own = symbols_are (object_at objects o) (shape o) (given.reads o there)

    itself : nat_eq o o ≡ true
    itself = eq-eqb o o refl

    function_alone : is_duplicate objects o (object_at objects o) 1 ≡ false
    function_alone =
        rw (
          own.function_binding,
          own.function_place,
          own.function_name,
          function_definition objects shape given apart o there,
          itself,
        )
        (differs (shape o).function get_address (apart.function_named o there))

    variable_alone : is_duplicate objects o (object_at objects o) 2 ≡ false
    variable_alone =
        rw (
          own.variable_binding,
          own.variable_place,
          own.variable_name,
          variable_definition objects shape given apart o there,
          itself,
        )
        (differs (shape o).variable get_address (apart.variable_named o there))

    getter_alone : HasGetter (object_at objects o) → is_duplicate objects o (object_at objects o) 3 ≡ false
    getter_alone getter = rw (getter.binding, getter.place) refl

    by_calls : (t : Bool) → (shape o).calls ≡ t → (e : ℕ) → 0 < e → e < symbol_count (object_at objects o)
        → is_duplicate objects o (object_at objects o) e ≡ false
    by_calls t calls zero above below = absurd (omega (arith, above))
    by_calls t calls (suc zero) above below = function_alone
    by_calls t calls (suc (suc zero)) above below = variable_alone
    by_calls true calls (suc (suc (suc zero))) above below = getter_alone (own.getter calls)
    by_calls false calls (suc (suc (suc zero))) above below = absurd (omega (arith, below, own.no_getter calls))
    by_calls true calls (suc (suc (suc (suc e)))) above below = let getter = own.getter calls in
        absurd (omega (arith, below, getter.count))
    by_calls false calls (suc (suc (suc (suc e)))) above below = absurd (omega (arith, below, own.no_getter calls))

  -- all names are as they should be
  pub resolved : (startup : List (List (List ℕ))) → AreResolved objects startup
  unfolding Stands
  resolved startup Undefined less o s e here =
      (none_charged objects shape given (is_faulty Undefined objects startup)
      (never_unbound startup)).nowhere o s e here
  resolved startup NotTls less o s e here =
      (none_charged objects shape given (is_faulty NotTls objects startup) (never_unsuited startup)).nowhere o s e here
  resolved startup Duplicate less o s e here =
      impossible (sym here.4 ∙ by_calls o here.0 (shape o).calls refl e here.2 here.3)
  resolved startup kind less o s e here = here

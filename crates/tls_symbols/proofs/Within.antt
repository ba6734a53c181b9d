-- The definition that a name binds to is a symbol of the image.
use Rattle.std.proofs.Common.{◌≡◌, ◌+◌, ◌-◌, ◌<◌, ◌≤◌, ◌∙◌, ℕ, zero, suc, Bool, true, false, List, [], ◌∷◌, Option}
use Rattle.std.proofs.Common.{Some, None, length, drop, inl, inr, refl, sym, ap, subst, arith}
use Rattle.std.specs.Prelude.{if◌then◌else◌, slice_index_or, IfSome, cond}
use Rattle.std.specs.List.{find, range_with_len}
use Rattle.std.specs.Str.{bytes_eq}
use Rattle.std.proofs.Math.ListN.{drop_of_length-le}
use Rattle.std.proofs.Math.Seq.{drop-cons}
use Rattle.std.proofs.lemmas.Bool.{cases_lt}
use Rattle.elf_object.specs.declared.relocation.Relocation.{Relocation}
use Rattle.elf_records.specs.declared.symbol.SymbolBinding.{SymbolBinding}
use Rattle.elf_records.specs.declared.symbol.SymbolBinding.TheVariants.{Local, Global, Weak}
use Rattle.elf_object.specs.Lent.{symbol_binding, symbol_name}
use Rattle.elf_object.specs.Parts.{symbol_count}
use Rattle.link_faults.specs.declared.binding.Binding.TheVariants.{Here, Runtime}
use Rattle.link_faults.specs.declared.symbol_ref.SymbolRef.{SymbolRef}
use Rattle.tls_symbols.specs.Bindings.{binding_of, bound_to, first_export, here_or, may_import, name_bound, object_at}
use Rattle.tls_symbols.specs.Bindings.{of_startup, IsBindingWithin}
use Rattle.elf_records.specs.Symbols.{get_address}
use Rattle.tls_symbols.specs.Definitions.{defines, definition_of, first_from, first_in, found_or, or_weak, same_binding}
use Rattle.tls_symbols.specs.Definitions.{IsWithin}

-- a list from a place on, which begins with x
pub record Dropped {X : Type 0} (xs : List X) (n : ℕ) (d x : X) (more : List X) : Type 0 where
  pub within : n < length xs
  pub here : slice_index_or xs n d ≡ x
  pub rest : drop (n + 1) xs ≡ more

pub dropped_is : {X : Type 0} (xs : List X) (n : ℕ) (d x : X) (more : List X) → drop n xs ≡ x ∷ more
    → Dropped xs n d x more
dropped_is xs n d x more e = elim (cases_lt n (length xs)) [
  | inl below ↦
      let next : suc n ≡ n + 1 = omega arith in
      let whole : slice_index_or xs n d ∷ drop (n + 1) xs ≡ x ∷ more =
      sym (drop-cons xs n d below ∙ ap (λ m. slice_index_or xs n d ∷ drop m xs) next) ∙ e in
      record { within = below; here = cc; rest = cc }
  | inr past ↦ let none : drop n xs ≡ [] = drop_of_length-le xs past in absurd (some_left (sym none ∙ e))
]
  where
    some_left : ◌≡◌ {A = List _} [] (x ∷ more) → ⊥
    some_left h = cc

impossible : true ≡ false → ⊥
impossible h = cc

-- what is found among numbers is the first that passes
pub record FoundAt (p : ℕ → Bool) (a n x : ℕ) : Type 0 where
  pub low : a ≤ x
  pub high : x < a + n
  pub passes : p x ≡ true
  pub first : (y : ℕ) → a ≤ y → y < x → p y ≡ true → ⊥

pub find_found : (p : ℕ → Bool) (a n x : ℕ) → find p (range_with_len a n) ≡ Some x → FoundAt p a n x
find_found p a zero x e = absurd (cc)
find_found p a (suc n) x e = by_test (p a) refl (λ h. find_found p (a + 1) n x h) e
  where
    by_test : (t : Bool) → p a ≡ t → (find p (range_with_len (a + 1) n) ≡ Some x → FoundAt p (a + 1) n x)
        → cond t (Some a) (find p (range_with_len (a + 1) n)) ≡ Some x → FoundAt p a (suc n) x
    by_test true here rest e =
        let same : a ≡ x = cc in
        record {
          low = omega (arith, same);
          high = omega (arith, same);
          passes = ap p (sym same) ∙ here;
          first = λ y low high. absurd (omega (arith, same, low, high));
        }
    by_test false other rest e =
        let later = rest e in
        record {
          low = omega (arith, later.low);
          high = omega (arith, later.high);
          passes = later.passes;
          first = λ y low high passes. elim (cases_lt a y) [
            | inl above ↦ later.first y (omega (arith, above)) high passes
            | inr at ↦ let same : y ≡ a = omega (arith, low, at) in impossible (sym passes ∙ ap p same ∙ other)
          ];
        }

pub find_nothing : (p : ℕ → Bool) (a n : ℕ) → find p (range_with_len a n) ≡ None → (y : ℕ) → a ≤ y → y < a + n
    → p y ≡ true → ⊥
find_nothing p a zero e y low high passes = absurd (omega (arith, low, high))
find_nothing p a (suc n) e y low high passes =
    by_test (p a) refl (λ h above. find_nothing p (a + 1) n h y above (omega (arith, high)) passes) e
  where
    by_test : (t : Bool) → p a ≡ t → (find p (range_with_len (a + 1) n) ≡ None → a + 1 ≤ y → ⊥)
        → cond t (Some a) (find p (range_with_len (a + 1) n)) ≡ None → ⊥
    by_test true here rest e = cc
    by_test false other rest e = elim (cases_lt a y) [
      | inl above ↦ rest e (omega (arith, above))
      | inr at ↦ let same : y ≡ a = omega (arith, low, at) in impossible (sym passes ∙ ap p same ∙ other)
    ]

first_in_within : (binding : SymbolBinding) (name b : List ℕ) (x : ℕ) → first_in binding name b ≡ Some x
    → x < symbol_count b
unfolding first_in
first_in_within binding name b x e =
    let found = find_found (defines b binding name) 1 (symbol_count b - 1) x e in omega (arith, found.low, found.high)

from_within : (binding : SymbolBinding) (name : List ℕ) (all more : List (List ℕ)) (o : ℕ) → drop o all ≡ more
    → IfSome (first_from binding name o more) (IsWithin all)
from_within binding name all [] o e = tt
from_within binding name all (b ∷ more) o e =
    by_found (first_in binding name b) refl (λ h. from_within binding name all more (o + 1) h)
  where
    at : Dropped all o [] b more
    at = dropped_is all o [] b more e

    by_found : (found : Option ℕ) → first_in binding name b ≡ found
        → (drop (o + 1) all ≡ more → IfSome (first_from binding name (o + 1) more) (IsWithin all))
        → IfSome (found_or o found (first_from binding name (o + 1) more)) (IsWithin all)
    by_found (Some x) is rest =
        record {
          object = at.within;
          symbol = subst (λ c. x < symbol_count c) (sym at.here) (first_in_within binding name b x is);
        }
    by_found None is rest = rest at.rest

pub definition_within : (objects : List (List ℕ)) (name : List ℕ)
    → IfSome (definition_of objects name) (IsWithin objects)
unfolding definition_of
definition_within objects name =
    either (first_from Global name 0 objects) (first_from Weak name 0 objects)
    (from_within Global name objects objects 0 refl) (from_within Weak name objects objects 0 refl)
  where
    either : (strong weak : Option SymbolRef) → IfSome strong (IsWithin objects) → IfSome weak (IsWithin objects)
        → IfSome (or_weak strong weak) (IsWithin objects)
    either (Some x) weak s w = s
    either None weak s w = w

pub bound_within : (objects : List (List ℕ)) (startup : List (List (List ℕ))) (o e : ℕ) (imports : Bool)
    → o < length objects → e < symbol_count (object_at objects o)
    → IfSome (bound_to objects startup o e imports) (IsBindingWithin objects)
unfolding bound_to
bound_within objects startup o e imports there symbol =
    of_local (same_binding Local (symbol_binding (object_at objects o) e))
  where
    of_import : (t : Bool) (k : Option ℕ) → IfSome (if t then of_startup k else None) (IsBindingWithin objects)
    of_import true (Some k) = tt
    of_import true None = tt
    of_import false k = tt

    of_definition : (found : Option SymbolRef) (t : Bool) (k : Option ℕ) → IfSome found (IsWithin objects)
        → IfSome (here_or found (if t then of_startup k else None)) (IsBindingWithin objects)
    of_definition (Some x) t k within = within
    of_definition None t k within = of_import t k

    of_name : (t : Bool) (name : List ℕ)
        → IfSome (if t then Some Runtime
        else here_or (definition_of objects name) (if imports then of_startup (first_export name 1 startup) else None))
        (IsBindingWithin objects)
    of_name true name = tt
    of_name false name = of_definition (definition_of objects name) imports (first_export name 1 startup)
        (definition_within objects name)

    of_local : (t : Bool) → IfSome
        (if t then Some (Here (record { object = o; symbol = e }))
        else name_bound objects startup imports (symbol_name (object_at objects o) e)) (IsBindingWithin objects)
    of_local true = record { object = there; symbol = symbol }
    of_local false = of_name (bytes_eq (symbol_name (object_at objects o) e) get_address)
        (symbol_name (object_at objects o) e)

pub binding_within : (objects : List (List ℕ)) (startup : List (List (List ℕ))) (o : ℕ) (r : Relocation)
    → o < length objects → r.symbol < symbol_count (object_at objects o)
    → IfSome (binding_of objects startup o r) (IsBindingWithin objects)
binding_within objects startup o r there symbol =
    bound_within objects startup o r.symbol (may_import r.kind) there symbol

-- How much room the names of objects take that read as plain shapes.
use Rattle.std.proofs.Common.{◌≡◌, ◌+◌, ◌-◌, ◌*◌, ◌<◌, ◌≤◌, ◌∙◌, ℕ, zero, suc, Bool, true, false, cond, List, [], ◌∷◌}
use Rattle.std.proofs.Common.{map, not, Some, filter, length, inl, inr, refl, sym, subst, ap, arith}
use Rattle.std.specs.Prelude.{slice_get, slice_index_or, sum_by}
use Rattle.std.specs.List.{All, flat_map, range_with_len}
use Rattle.std.specs.Str.{bytes_eq}
use Rattle.std.proofs.lemmas.Bool.{cases_eq}
use Rattle.std.proofs.lemmas.List.{get_or_default}
use Rattle.std.proofs.lemmas.List.Sums.{sum_by-append, sum_by-cons}
use Rattle.elf_object.specs.declared.relocation.Relocation.{Relocation}
use Rattle.elf_object.specs.Lent.{relocations}
use Rattle.elf_object.specs.Parts.{symbol_count}
use Rattle.sequence_forms.specs.declared.places.Site.{Site}
use Rattle.sequence_match.specs.Faults.{AreSites, IsSite}
use Rattle.sequence_match.specs.Sites.{IsEntry, first_of}
use Rattle.tls_symbols.specs.Bindings.{binding_of, object_at}
use Rattle.tls_symbols.proofs.Search.{first_all, rest_all}
use Rattle.dynamic_symbols.specs.Names.{defined_at, defined_in, defined_names, defined_symbols, distinct, imported_at}
use Rattle.dynamic_symbols.specs.Names.{imported_in, imports, is_startup, name_of, name_size, size_of}
use Rattle.dynamic_symbols.proofs.Named.{symbols_named}
use Rattle.generated_job.specs.Shapes.{Shape}
use Rattle.generated_laws.specs.Reading.{ReadsAs, relocation_of}
use Rattle.generated_laws.proofs.KindPlain.{ReadAsShapes, Suits}
use Rattle.generated_laws.proofs.NameSymbols.{HasGetter, HasSymbols, symbols_are}
use Rattle.generated_laws.proofs.NameDefinitions.{AreApart, getter_bound, variable_bound}
use Rattle.tls_symbols.specs.Definitions.{flat_map_from}

-- ** what an object defines

two_names : (f : ℕ → List (List ℕ)) (x y : List ℕ) → f 1 ≡ x ∷ [] → f 2 ≡ y ∷ []
    → flat_map f (range_with_len 1 2) ≡ x ∷ y ∷ []
two_names f x y first second = rw (first, second) refl

three_names : (f : ℕ → List (List ℕ)) (x y : List ℕ) → f 1 ≡ x ∷ [] → f 2 ≡ y ∷ [] → f 3 ≡ []
    → flat_map f (range_with_len 1 3) ≡ x ∷ y ∷ []
three_names f x y first second third = rw (first, second, third) refl

defined_in_is : (b : List ℕ) (s : Shape) → ReadsAs b s → defined_in b ≡ s.function ∷ s.variable ∷ []
unfolding defined_in
defined_in_is b s reads = by s.calls refl
  where
    has : HasSymbols b s
    has = symbols_are b s reads

    function_here : defined_at b 1 ≡ s.function ∷ []
    function_here = rw (has.function_binding, has.function_place, has.function_name) refl

    variable_here : defined_at b 2 ≡ s.variable ∷ []
    variable_here = rw (has.variable_binding, has.variable_place, has.variable_name) refl

    getter_elsewhere : HasGetter b → defined_at b 3 ≡ []
    getter_elsewhere getter = rw (getter.binding, getter.place) refl

    by : (t : Bool) → s.calls ≡ t
        → flat_map (defined_at b) (range_with_len 1 (symbol_count b - 1)) ≡ s.function ∷ s.variable ∷ []
    by true calls =
        let getter = has.getter calls in
        ap (λ n. flat_map (defined_at b) (range_with_len 1 (n - 1))) getter.count
        ∙ three_names (defined_at b) s.function s.variable function_here variable_here (getter_elsewhere getter)
    by false silent =
        ap (λ n. flat_map (defined_at b) (range_with_len 1 (n - 1))) (has.no_getter silent)
        ∙ two_names (defined_at b) s.function s.variable function_here variable_here

-- ** sums over names

sum_of_map : {X Y : Type 0} (f : Y → ℕ) (g : X → Y) (xs : List X) → sum_by (λ x. f (g x)) xs ≡ sum_by f (map g xs)
sum_of_map f g [] = refl
sum_of_map f g (x ∷ xs) =
    sum_by-cons (λ x. f (g x)) x xs ∙ ap (λ n. f (g x) + n) (sum_of_map f g xs) ∙ sym (sum_by-cons f (g x) (map g xs))

sum_of_filter : {X : Type 0} (f : X → ℕ) (p : X → Bool) (xs : List X) → sum_by f (filter p xs) ≤ sum_by f xs
sum_of_filter f p [] = omega arith
sum_of_filter f p (x ∷ xs) = by (p x) (sum_of_filter f p xs)
  where
    by : (t : Bool) → sum_by f (filter p xs) ≤ sum_by f xs
        → sum_by f (cond t (x ∷ filter p xs) (filter p xs)) ≤ sum_by f (x ∷ xs)
    by true rest = omega (arith, rest, sum_by-cons f x (filter p xs), sum_by-cons f x xs)
    by false rest = omega (arith, rest, sum_by-cons f x xs)

sum_of_distinct : (f : List ℕ → ℕ) (names : List (List ℕ)) → sum_by f (distinct names) ≤ sum_by f names
sum_of_distinct f [] = omega arith
sum_of_distinct f (x ∷ xs) =
    omega (
      arith,
      sum_of_distinct f xs,
      sum_of_filter f (λ other. not (bytes_eq x other)) (distinct xs),
      sum_by-cons f x (filter (λ other. not (bytes_eq x other)) (distinct xs)),
      sum_by-cons f x xs,
    )

sum_of_flat : {X Y : Type 0} (f : Y → ℕ) (g : X → List Y) (m : ℕ) (xs : List X) → All (λ x. sum_by f (g x) ≤ m) xs
    → sum_by f (flat_map g xs) ≤ length xs * m
sum_of_flat f g m [] all = omega arith
sum_of_flat f g m (x ∷ xs) all =
    let rest = sum_of_flat f g m xs (rest_all (λ y. sum_by f (g y) ≤ m) x xs all) in
    let here : sum_by f (g x) ≤ m = all 0 x (omega arith) in
    omega (arith, rest, here, sum_by-append f (g x) (flat_map g xs))

-- ** what the image imports

flat_none : {X Y : Type 0} (f : X → List Y) (xs : List X) → All (λ x. f x ≡ []) xs → flat_map f xs ≡ []
flat_none f [] all = refl
flat_none f (x ∷ xs) all =
    let here : f x ≡ [] = all 0 x (omega arith) in rw here (flat_none f xs (rest_all (λ y. f y ≡ []) x xs all))

entry_suits : {X : Type 0} (P : X → Type 0) (xs : List X) → All P xs → (e : ℕ) (x : X) → slice_get xs e ≡ Some x → P x
entry_suits P [] all e x is = absurd (cc)
entry_suits P (y ∷ ys) all zero x is = let same : y ≡ x = cc in subst P same (first_all P y ys (y ∷ ys) refl all)
entry_suits P (y ∷ ys) all (suc e) x is = entry_suits P ys (rest_all P y ys all) e x is

module _ (objects : List (List ℕ)) (shape : ℕ → Shape) (given : ReadAsShapes objects shape) where
  -- a relocation of an object, in whatever section, suits it
  entry_is : (o : ℕ) → o < length objects → (t e : ℕ) (x : Relocation)
      → IsEntry (relocations (object_at objects o) t) e x → Suits (shape o).calls x
  entry_is o there t e x is = elim (cases_eq t 1) [
    | inl same ↦
        entry_suits (Suits (shape o).calls) (map relocation_of (shape o).relocations) (given.plain o there).suits e x
        (subst (λ xs. slice_get xs e ≡ Some x)
        (ap (relocations (object_at objects o)) same ∙ (given.reads o there).relocations_are) is)
    | inr other ↦
        entry_suits (Suits (shape o).calls) [] (λ k d h. absurd (omega (arith, h))) e x
        (subst (λ xs. slice_get xs e ≡ Some x) ((given.reads o there).no_other t other) is)
  ]

  module _ (apart : AreApart objects shape) (startup : List (List (List ℕ))) where
    -- no site names what is bound to a startup image
    bound_here : (o : ℕ) → o < length objects → (x r : Relocation) → r.symbol ≡ x.symbol → Suits (shape o).calls x
        → is_startup (binding_of objects startup o r) ≡ false
    bound_here o there x r same (inl own) =
        rw (variable_bound objects shape given apart startup o r there (same ∙ own.0)) refl
    bound_here o there x r same (inr called) =
        rw (getter_bound objects shape given apart startup o r there (same ∙ called.0) called.1) refl

    site_imports_none : (o : ℕ) → o < length objects → (site : Site) → IsSite (object_at objects o) site
        → imported_at objects startup o site ≡ []
    site_imports_none o there site is =
        let first = is.1.first in
        rw (bound_here o there first.0 (first_of site) first.3
        (entry_is o there site.section is.0 first.0 first.1)) refl

    none_in : (o : ℕ) → o < length objects → (sites : List Site) → AreSites (object_at objects o) sites
        → imported_in objects startup o sites ≡ []
    unfolding imported_in
    none_in o there sites are =
        flat_none (imported_at objects startup o) sites
        (λ k d h. site_imports_none o there (slice_index_or sites k d) (are.only k d h))

    none_from : (sites : List (List Site)) (o : ℕ)
        → ((k : ℕ) → k < length sites → imported_in objects startup (o + k) (slice_index_or sites k []) ≡ [])
        → flat_map_from (imported_in objects startup) o sites ≡ []
    none_from [] o each = refl
    none_from (own ∷ more) o each =
        let same : o + 0 ≡ o = omega arith in
        let here : imported_in objects startup o own ≡ [] =
        subst (λ p. imported_in objects startup p own ≡ []) same (each 0 (omega arith)) in
        rw here
        (none_from more (o + 1)
        (λ k h.
        (let next : o + suc k ≡ o + 1 + k = omega arith in
        subst (λ p. imported_in objects startup p (slice_index_or more k []) ≡ []) next
        (each (suc k) (omega (arith, h))))))

    -- the image imports nothing
    pub no_imports : (sites : List (List Site)) → length sites ≡ length objects
        → ((o : ℕ) → o < length objects → AreSites (object_at objects o) (slice_index_or sites o []))
        → imports objects startup sites ≡ []
    unfolding imports
    no_imports sites each are =
        ap distinct
        (none_from sites 0
        (λ k h.
        (let same : k ≡ 0 + k = omega arith in
        let there : k < length objects = omega (arith, h, each) in
        subst (λ p. imported_in objects startup p (slice_index_or sites k []) ≡ []) same
        (none_in k there (slice_index_or sites k []) (are k there)))))

  -- each object's names take 60 bytes at most
  own_size : (o : ℕ) → o < length objects → sum_by size_of (defined_in (object_at objects o)) ≤ 60
  own_size o there =
      let s = shape o in
      let is : sum_by size_of (defined_in (object_at objects o)) ≡ sum_by size_of (s.function ∷ s.variable ∷ []) =
      ap (sum_by size_of) (defined_in_is (object_at objects o) s (given.reads o there)) in
      let plain = given.plain o there in
      omega (
        arith,
        is,
        sum_by-cons size_of s.function (s.variable ∷ []),
        sum_by-cons size_of s.variable [],
        plain.short_function,
        plain.short_variable,
      )

  defined_size : sum_by (λ found. size_of (name_of objects found)) (defined_symbols objects) ≤ length objects * 60
  unfolding defined_names
  defined_size =
      let named : sum_by (λ found. size_of (name_of objects found)) (defined_symbols objects)
      ≡ sum_by size_of (defined_names objects) =
      sum_of_map size_of (name_of objects) (defined_symbols objects) ∙ ap (sum_by size_of) (symbols_named objects) in
      let once = sum_of_distinct size_of (flat_map defined_in objects) in
      let each = sum_of_flat size_of defined_in 60 objects
      (λ k d there. subst (λ b. sum_by size_of (defined_in b) ≤ 60) (get_or_default objects k [] d there)
      (own_size k there)) in
      omega (arith, named, once, each)

  -- all that are defined and imported
  pub names_fit : (imported : List (List ℕ)) → imported ≡ []
      → name_size objects (defined_symbols objects) imported ≤ length objects * 60
  unfolding name_size
  names_fit imported none =
      let nothing : sum_by size_of imported ≡ 0 = ap (sum_by size_of) none in omega (arith, nothing, defined_size)

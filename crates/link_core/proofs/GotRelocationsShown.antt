-- The symbols that relocations of the table name.
use Rattle.std.proofs.Common.{◌≡◌, ◌∙◌, ◌+◌, ◌<◌, ◌≤◌, ℕ, suc, Bool, true, false, List, [], ◌∷◌, ◌++◌, length, map}
use Rattle.std.proofs.Common.{Option, Some, None, refl, sym, ap, arith}
use Rattle.std.specs.Prelude.{cond, slice_index_or, unwrap_or}
use Rattle.std.specs.List.{position_from}
use Rattle.std.specs.Str.{bytes_eq}
use Rattle.std.proofs.lemmas.List.{get_or-append-add, get_or_append_left, get_or-map, length-append, length-map}
use Rattle.elf_records.specs.declared.symbol.SymbolType.TheVariants.{NoType, Tls}
use Rattle.image_writer.specs.Contents.{null_symbol, symbol, name}
use Rattle.image_writer.specs.Linkable.{IsImport, IsRuntime}
use Rattle.got_pairs.specs.declared.entry.DynamicSymbol.TheVariants.{Imported, Runtime}
use Rattle.dynamic_symbols.specs.Names.{name_of}
use Rattle.elf_records.specs.Symbols.{get_address}
use Rattle.link_needs.specs.Linking.{Linking}
use Rattle.link_needs.specs.Needs.{uses_runtime}
use Rattle.link_tables.specs.Dynamic.{defined, foreign, imports, names, number_of, own_symbols, runtime_names}
use Rattle.link_tables.specs.Dynamic.{runtime_symbols, symbols}
use Rattle.link_core.specs.Images.{contents}

-- the element behind the first ones of a list that are made of others
past_made : {X Y : Type 0} (f : X → Y) (xs : List X) (ys : List Y) (n : ℕ) (d : Y)
    → slice_index_or (map f xs ++ ys) (length xs + n) d ≡ slice_index_or ys n d
past_made f xs ys n d =
    ap (λ m. slice_index_or (map f xs ++ ys) (m + n) d) (sym (length-map xs f)) ∙ get_or-append-add (map f xs) ys n d

behind_first : {X : Type 0} (x : X) (xs : List X) (m : ℕ) (d : X)
    → slice_index_or (x ∷ xs) (1 + m) d ≡ slice_index_or xs m d
behind_first x xs m d = let next : 1 + m ≡ suc m = omega arith in ap (λ n. slice_index_or (x ∷ xs) n d) next

module _ (l : Linking) where
  shown : (m : ℕ) → symbol (contents l) (1 + m) ≡ slice_index_or (symbols l) m null_symbol
  unfolding contents
  shown m = behind_first null_symbol (symbols l) m null_symbol

  name_shown : (m : ℕ) → name (contents l) (1 + m) ≡ slice_index_or (names l) m []
  unfolding contents
  name_shown m = behind_first [] (names l) m []

  -- ** how many there are

  symbol_total : length (symbols l)
      ≡ length (own_symbols l) + (length (imports l) + length (runtime_symbols (uses_runtime l)))
  unfolding symbols
  symbol_total =
      let own = map (defined l) (own_symbols l) in
      let foreigners = map (λ (name : List ℕ). foreign Tls) (imports l) in
      let last = runtime_symbols (uses_runtime l) in
      length-append own (foreigners ++ last)
      ∙ ap (λ n. n + length (foreigners ++ last)) (length-map (own_symbols l) (defined l))
      ∙ ap (λ n. length (own_symbols l) + n) (length-append foreigners last
      ∙ ap (λ n. n + length last) (length-map (imports l) (λ (name : List ℕ). foreign Tls)))

  -- ** imports

  import_shown : (p : ℕ) → p < length (imports l) → symbol (contents l) (1 + (length (own_symbols l) + p)) ≡ foreign Tls
  unfolding symbols
  import_shown p below =
      let foreigners = map (λ (name : List ℕ). foreign Tls) (imports l) in
      let inside : p < length foreigners =
      omega (arith, below, length-map (imports l) (λ (name : List ℕ). foreign Tls)) in
      shown (length (own_symbols l) + p)
      ∙ past_made (defined l) (own_symbols l) (foreigners ++ runtime_symbols (uses_runtime l)) p null_symbol
      ∙ get_or_append_left foreigners (runtime_symbols (uses_runtime l)) null_symbol p inside
      ∙ get_or-map (λ (name : List ℕ). foreign Tls) (imports l) p [] null_symbol below

  found_below : (test : List ℕ → Bool) (i : ℕ) (xs : List (List ℕ)) (e : ℕ)
      → position_from test i xs ≡ Some e → e < i + length xs
  found_below test i [] e is = absurd (cc)
  found_below test i (x ∷ xs) e is = by_test (test x) (λ h. found_below test (i + 1) xs e h) is
    where
      by_test : (t : Bool) → (position_from test (i + 1) xs ≡ Some e → e < i + 1 + length xs)
          → cond t (Some i) (position_from test (i + 1) xs) ≡ Some e → e < i + suc (length xs)
      by_test true rest is = let same : i ≡ e = cc in omega arith
      by_test false rest is = omega (arith, rest is)

  or_first : (found : Option ℕ) (n : ℕ) → 0 < n → ((e : ℕ) → found ≡ Some e → e < n) → unwrap_or found 0 < n
  or_first None n some below = some
  or_first (Some e) n some below = below e refl

  position_below : (name : List ℕ) → 0 < length (imports l)
      → unwrap_or (position_from (bytes_eq name) 0 (imports l)) 0 < length (imports l)
  position_below name some =
      or_first (position_from (bytes_eq name) 0 (imports l)) (length (imports l)) some
      (λ e is. omega (arith, found_below (bytes_eq name) 0 (imports l) e is))

  pub import_in : (name : List ℕ) → 0 < length (imports l) → number_of l (Imported name) ≤ length (symbols l)
  import_in name some = omega (arith, position_below name some, symbol_total)

  pub is_import : (name : List ℕ) → 0 < length (imports l) → IsImport (contents l) (number_of l (Imported name))
  is_import name some =
      let p = unwrap_or (position_from (bytes_eq name) 0 (imports l)) 0 in
      let is = import_shown p (position_below name some) in
      (λ none. omega (arith, none), ap (λ s. s.is_defined) is, ap (λ s. s.kind) is)

  -- ** the function of the run time

  runtime_shown : uses_runtime l ≡ true → symbol (contents l) (number_of l Runtime) ≡ foreign NoType
  unfolding symbols
  runtime_shown uses =
      let foreigners = map (λ (name : List ℕ). foreign Tls) (imports l) in
      let first : length (imports l) ≡ length (imports l) + 0 = omega arith in
      shown (length (own_symbols l) + length (imports l))
      ∙ past_made (defined l) (own_symbols l) (foreigners ++ runtime_symbols (uses_runtime l)) (length (imports l))
      null_symbol
      ∙ ap (λ n. slice_index_or (foreigners ++ runtime_symbols (uses_runtime l)) n null_symbol) first
      ∙ past_made (λ (name : List ℕ). foreign Tls) (imports l) (runtime_symbols (uses_runtime l)) 0 null_symbol
      ∙ ap (λ t. slice_index_or (runtime_symbols t) 0 null_symbol) uses

  runtime_named : uses_runtime l ≡ true → name (contents l) (number_of l Runtime) ≡ get_address
  unfolding names
  runtime_named uses =
      let first : length (imports l) ≡ length (imports l) + 0 = omega arith in
      name_shown (length (own_symbols l) + length (imports l))
      ∙ past_made (name_of l.objects) (own_symbols l) (imports l ++ runtime_names (uses_runtime l)) (length (imports l))
      []
      ∙ ap (λ n. slice_index_or (imports l ++ runtime_names (uses_runtime l)) n []) first
      ∙ get_or-append-add (imports l) (runtime_names (uses_runtime l)) 0 []
      ∙ ap (λ t. slice_index_or (runtime_names t) 0 []) uses

  pub runtime_in : uses_runtime l ≡ true → number_of l Runtime ≤ length (symbols l)
  runtime_in uses =
      let one : length (runtime_symbols (uses_runtime l)) ≡ 1 = ap (λ t. length (runtime_symbols t)) uses in
      omega (arith, symbol_total, one)

  pub is_runtime : uses_runtime l ≡ true → IsRuntime (contents l) (number_of l Runtime)
  is_runtime uses = (ap (λ s. s.is_defined) (runtime_shown uses), runtime_named uses)

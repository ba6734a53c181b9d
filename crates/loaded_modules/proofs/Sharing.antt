-- The symbols that images share, symbol by symbol: what is found and what is left.
use Rattle.std.proofs.Common.{◌≡◌, ◌∙◌, ℕ, zero, suc, ◌+◌, ◌≤◌, Bool, true, false, cond, List, [], ◌∷◌, drop, length}
use Rattle.std.proofs.Common.{Option, Some, None, refl, sym, ap, add-one}
use Rattle.std.specs.Prelude.{◌&&◌, option_map, if◌then◌else◌}
use Rattle.std.specs.List.{slice_get}
use Rattle.std.specs.Option.{option_or}
use Rattle.std.specs.Str.{bytes_eq}
use Rattle.std.proofs.lemmas.Bool.{false≢true}
use Rattle.std.proofs.lemmas.List.{drop_all}
use Rattle.std.proofs.lemmas.Slice.Eq.{bytes_eq-Decides}
use Rattle.image_file.specs.declared.symbol.ImageSymbol.{ImageSymbol}
use Rattle.loaded_modules.specs.declared.exports.Export.{Export}
use Rattle.loaded_modules.specs.Exported.{shared_at}
use Rattle.loaded_modules.specs.Loader.{export_in, is_shared, shared_among}
use Rattle.loaded_modules.proofs.Left.{or_none, or_or, map_or}

-- ** a name that is added where it was not

module _ (old new : List ℕ → Option Export) (name : List ℕ) (e : Export)
    (step : (q : List ℕ) → new q ≡ cond (bytes_eq name q) (Some e) (old q)) (none : old name ≡ None) where
  added_by : (q : List ℕ) (t u : Bool) → bytes_eq name q ≡ t → bytes_eq q name ≡ u
      → cond t (Some e) (old q) ≡ option_or (old q) (cond u (Some e) None)
  added_by q true true is back =
      sym (ap (λ o. option_or o (Some e)) (ap old (sym ((bytes_eq-Decides name q).0 is)) ∙ none))
  added_by q false false is back = sym (or_none (old q))
  added_by q true false is back =
      absurd (false≢true (sym back ∙ (bytes_eq-Decides q name).1 (sym ((bytes_eq-Decides name q).0 is))))
  added_by q false true is back =
      absurd (false≢true (sym is ∙ (bytes_eq-Decides name q).1 (sym ((bytes_eq-Decides q name).0 back))))

  pub added : (q : List ℕ) → new q ≡ option_or (old q) (if bytes_eq q name then Some e else None)
  added q = step q ∙ ap (λ b. cond b (Some e) (old q)) refl ∙ added_by q (bytes_eq name q) (bytes_eq q name) refl refl

-- ** the symbols of an image

none_left : (q : List ℕ) (ss : List ImageSymbol) → shared_among q ss [] ≡ None
none_left q [] = refl
none_left q (s ∷ ss) = refl

here_or : (t : Bool) (n : ℕ) (rest : Option ℕ) → cond t (Some n) rest ≡ option_or (cond t (Some n) None) rest
here_or true n rest = refl
here_or false n rest = refl

among-suc : (q : List ℕ) (n : ℕ) (ss : List ImageSymbol) (ns : List (List ℕ))
    → shared_among q (drop n ss) (drop n ns)
    ≡ option_or (shared_at q (slice_get ss n) (slice_get ns n)) (shared_among q (drop (suc n) ss) (drop (suc n) ns))
among-suc q zero [] ns = refl
among-suc q zero (s ∷ ss) [] = sym (none_left q ss)
among-suc q zero (s ∷ ss) (own ∷ ns) = here_or (is_shared s && bytes_eq q own) s.value (shared_among q ss ns)
among-suc q (suc n) [] ns = refl
among-suc q (suc n) (s ∷ ss) [] = none_left q (drop n ss) ∙ sym (rest (slice_get ss n))
  where
    rest : (o : Option ImageSymbol) → option_or (shared_at q o None) (shared_among q (drop (suc n) ss) []) ≡ None
    rest None = none_left q (drop (suc n) ss)
    rest (Some x) = none_left q (drop (suc n) ss)
among-suc q (suc n) (s ∷ ss) (own ∷ ns) = among-suc q n ss ns

module _ (ss : List ImageSymbol) (ns : List (List ℕ)) (number n : ℕ) (old new all : List ℕ → Option Export) where
  -- one more symbol
  pub symbol_on : ((q : List ℕ)
      → new q ≡ option_or (old q) (option_map (export_in number) (shared_at q (slice_get ss n) (slice_get ns n))))
      → ((q : List ℕ) → option_or (old q) (option_map (export_in number) (shared_among q (drop n ss) (drop n ns)))
      ≡ all q)
      → (q : List ℕ) → option_or (new q)
      (option_map (export_in number) (shared_among q (drop (n + 1) ss) (drop (n + 1) ns))) ≡ all q
  symbol_on step left q =
      let here = option_map (export_in number) (shared_at q (slice_get ss n) (slice_get ns n)) in
      let rest = option_map (export_in number) (shared_among q (drop (n + 1) ss) (drop (n + 1) ns)) in
      ap (λ o. option_or o rest) (step q) ∙ or_or (old q) here rest
      ∙ ap (option_or (old q))
      (sym (map_or (export_in number) (shared_at q (slice_get ss n) (slice_get ns n))
      (shared_among q (drop (n + 1) ss) (drop (n + 1) ns))))
      ∙ ap (λ o. option_or (old q) (option_map (export_in number) o))
      (ap (λ k. option_or (shared_at q (slice_get ss n) (slice_get ns n)) (shared_among q (drop k ss) (drop k ns)))
      (add-one n) ∙ sym (among-suc q n ss ns))
      ∙ left q

  -- no symbol is left
  pub symbols_past : length ss ≤ n
      → ((q : List ℕ) → option_or (old q) (option_map (export_in number) (shared_among q (drop n ss) (drop n ns)))
      ≡ all q)
      → (q : List ℕ) → old q ≡ all q
  symbols_past past left q =
      sym (or_none (old q))
      ∙ sym (ap (λ xs. option_or (old q) (option_map (export_in number) (shared_among q xs (drop n ns))))
      (drop_all n ss past))
      ∙ left q

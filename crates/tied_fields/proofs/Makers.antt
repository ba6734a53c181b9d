-- The first sequence of an image that makes a descriptor of a symbol: it is one of the image's, and there is one where
-- any does.
use Rattle.std.proofs.Common.{◌≡◌, ◌∙◌, ◌+◌, ◌<◌, ℕ, zero, suc, true, List, [], ◌∷◌, Option, Some, None}
use Rattle.std.proofs.Common.{length, refl, sym, ap, subst, arith}
use Rattle.std.specs.Prelude.{is_some, option_map, slice_index_or}
use Rattle.std.specs.List.{Contains, find}
use Rattle.std.specs.Option.{option_or}
use Rattle.std.proofs.lemmas.Option.{same_Some}
use Rattle.link_needs.specs.Linking.{Linking}
use Rattle.loaded_bytes.proofs.Finds.{found_is, none_passes}
use Rattle.loaded_modules.specs.declared.instance.Instance.{Instance}
use Rattle.sequence_forms.specs.declared.places.Site.{Site}
use Rattle.tied_fields.specs.Settings.{ObjectSite, first_from, makes_of}

module _ (ls : List Linking) (known : ℕ → Option Instance) (x : Instance) (l : Linking) (symbol : ℕ) where
  -- a sequence of object n + j of objects from number n on, whose sites these are
  pub record IsMaker (n : ℕ) (sites : List (List Site)) (m : ObjectSite) : Type 0 where
    pub index : ℕ
    pub number : m.object ≡ n + index
    pub below : index < length sites
    pub among : Contains (slice_index_or sites index []) m.site
    pub passes : makes_of ls known x l symbol m.object m.site ≡ true

  pub maker_is : (n : ℕ) (sites : List (List Site)) (m : ObjectSite)
      → first_from ls known x l symbol n sites ≡ Some m → IsMaker n sites m
  maker_is n [] m e = absurd (cc)
  maker_is n (own ∷ more) m e =
      of_found (find (makes_of ls known x l symbol n) own) refl e (maker_is (n + 1) more m)
    where
      of_found : (found : Option Site) → find (makes_of ls known x l symbol n) own ≡ found
          → option_or (option_map (λ (s : Site). record { object = n; site = s }) found)
          (first_from ls known x l symbol (n + 1) more) ≡ Some m
          → (first_from ls known x l symbol (n + 1) more ≡ Some m → IsMaker (n + 1) more m) → IsMaker n (own ∷ more) m
      of_found None is e rest =
          let r = rest e in
          record {
            index = suc r.index;
            number = omega (arith, r.number);
            below = omega (arith, r.below);
            among = r.among;
            passes = r.passes;
          }
      of_found (Some s) is e rest =
          let f = found_is (makes_of ls known x l symbol n) own s is in
          let same : record { object = n; site = s } ≡ m = same_Some (record { object = n; site = s }) m e in
          subst (IsMaker n (own ∷ more)) same (record {
            index = 0;
            number = omega arith;
            below = omega arith;
            among = f.among;
            passes = f.passes;
          })

  pub some_maker : (n : ℕ) (sites : List (List Site)) (j : ℕ) (site : Site) → j < length sites
      → Contains (slice_index_or sites j []) site → makes_of ls known x l symbol (n + j) site ≡ true
      → is_some (first_from ls known x l symbol n sites) ≡ true
  some_maker n [] j site below among passes = absurd (omega (arith, below))
  some_maker n (own ∷ more) j site below among passes =
      of_found (find (makes_of ls known x l symbol n) own) refl j below among passes (some_maker (n + 1) more)
    where
      of_found : (found : Option Site) → find (makes_of ls known x l symbol n) own ≡ found
          → (i : ℕ) → i < length (own ∷ more) → Contains (slice_index_or (own ∷ more) i []) site
          → makes_of ls known x l symbol (n + i) site ≡ true
          → ((k : ℕ) (s : Site) → k < length more → Contains (slice_index_or more k []) s
          → makes_of ls known x l symbol (n + 1 + k) s ≡ true
          → is_some (first_from ls known x l symbol (n + 1) more) ≡ true)
          → is_some (option_or (option_map (λ (s : Site). record { object = n; site = s }) found)
          (first_from ls known x l symbol (n + 1) more)) ≡ true
      of_found (Some s) is i here at test rest = refl
      of_found None is zero here at test rest =
          let same : n + 0 ≡ n = omega arith in
          absurd (none_passes (makes_of ls known x l symbol n) own site is at
          (ap (λ (o : ℕ). makes_of ls known x l symbol o site) (sym same) ∙ test))
      of_found None is (suc i) here at test rest =
          let same : n + 1 + i ≡ n + suc i = omega arith in
          rest i site (omega (arith, here)) at (ap (λ (o : ℕ). makes_of ls known x l symbol o site) same ∙ test)

-- Entries and where they begin.
use Rattle.std.proofs.Common.{◌≡◌, ◌+◌, ◌∙◌, ℕ, Bool, true, false, cond, zero, suc, ◌||◌, List, [], ◌∷◌, ◌++◌, Some}
use Rattle.std.proofs.Common.{is_some, if◌then◌else◌, refl, sym, ap, subst, arith}
use Rattle.std.specs.List.{list_any, slice_get}
use Rattle.std.specs.Option.{option_map}
use Rattle.std.specs.Map.{keys_of, lookup}
use Rattle.indexmap.specs.IndexMap.{insert_entry}
use Rattle.link_faults.specs.declared.image_kind.ImageKind.{ImageKind}
use Rattle.got_pairs.specs.declared.need.Need.{Need}
use Rattle.got_pairs.specs.declared.need.Need.TheVariants.{ModulePair, SymbolPair, Descriptor, SymbolWord}
use Rattle.got_pairs.specs.declared.need.Need.TheVariants.{AddressWord, RuntimeWord}
use Rattle.got_pairs.specs.declared.need.Target.{Target}
use Rattle.got_pairs.specs.declared.need.Target.TheVariants.{Here, Import}
use Rattle.got_pairs.specs.contracts.need.NeedPartialEq.TheImpl.{eq-value}
use Rattle.got_pairs.specs.contracts.need.TargetPartialEq.TheImpl.{eq-value as target-eq}
use Rattle.got_pairs.specs.Needs.{same_need, same_target, size_of, start_from, total_size}
use Rattle.got_pairs.specs.Plans.{Table, with_need}
use Rattle.got_pairs.specs.Needs.{starts_from}

-- what `==` answers
pub target_is : (x y : Target) → (target-eq).it x y ≡ same_target x y
target_is (Here s o) (Here t p) = refl
target_is (Here s o) (Import m) = refl
target_is (Import n) (Here t p) = refl
target_is (Import n) (Import m) = refl

pub eq_is : (x y : Need) → (eq-value).it x y ≡ same_need x y
eq_is ModulePair ModulePair = refl
eq_is ModulePair y = refl
eq_is (SymbolPair x) (SymbolPair y) = target_is x y
eq_is (SymbolPair x) y = refl
eq_is (Descriptor x) (Descriptor y) = target_is x y
eq_is (Descriptor x) y = refl
eq_is (SymbolWord x) (SymbolWord y) = target_is x y
eq_is (SymbolWord x) y = refl
eq_is (AddressWord s p) ModulePair = refl
eq_is (AddressWord s p) y = refl
eq_is RuntimeWord ModulePair = refl
eq_is RuntimeWord y = refl

-- a need that stands among the keys is found
pub found : (test : Need → Bool) (es : List (Need × ℕ)) → is_some (lookup test es) ≡ list_any test (keys_of es)
found test [] = refl
found test (e ∷ es) =
    elim (test e.0) as (λ b. is_some (cond b (Some e.1) (lookup test es)) ≡ (b || list_any test (keys_of es)))
    [ true ↦ refl | false ↦ found test es ]

-- where it begins
pub lookup_starts : (need : Need) (at : ℕ) (ks : List Need)
    → lookup (same_need need) (starts_from at ks) ≡ start_from at ks need
lookup_starts need at [] = refl
lookup_starts need at (k ∷ ks) = ap (λ r. cond (same_need need k) (Some at) r) (lookup_starts need (at + size_of k) ks)

-- `==` and the definition are one test
pub eq_same : (eq-value).it ≡ same_need
eq_same = λ i x y. eq_is x y i

both_false : (a b : Bool) → (a || b) ≡ false → (a ≡ false) × (b ≡ false)
both_false false b e = (refl, e)
both_false true b e = cc

-- one more entry
pub insert_last : (eq : Need → Need → Bool) (es : List (Need × ℕ)) (need : Need) (at : ℕ)
    → list_any (eq need) (keys_of es) ≡ false → insert_entry eq es need at ≡ es ++ (need, at) ∷ []
insert_last eq [] need at none = refl
insert_last eq (e ∷ es) need at none =
    let split = both_false (eq need e.0) (list_any (eq need) (keys_of es)) none in
    ap (λ b. if b then (e.0, at) ∷ es else e ∷ insert_entry eq es need at) split.0
    ∙ ap (λ rest. e ∷ rest) (insert_last eq es need at split.1)

pub starts_last : (at : ℕ) (ks : List Need) (need : Need)
    → starts_from at (ks ++ need ∷ []) ≡ starts_from at ks ++ (need, at + total_size ks) ∷ []
starts_last at [] need = let same : at ≡ at + 0 = omega arith in ap (λ n. (need, n) ∷ []) same
starts_last at (k ∷ ks) need =
    let same : at + size_of k + total_size ks ≡ at + (size_of k + total_size ks) = omega arith in
    ap (λ rest. (k, at) ∷ rest)
    (starts_last (at + size_of k) ks need ∙ ap (λ n. starts_from (at + size_of k) ks ++ (need, n) ∷ []) same)

pub keys_last : (es : List (Need × ℕ)) (need : Need) (at : ℕ)
    → keys_of (es ++ (need, at) ∷ []) ≡ keys_of es ++ need ∷ []
keys_last [] need at = refl
keys_last (e ∷ es) need at = ap (λ ks. e.0 ∷ ks) (keys_last es need at)

pub size_last : (ks : List Need) (need : Need) → total_size (ks ++ need ∷ []) ≡ total_size ks + size_of need
size_last [] need = omega arith
size_last (k ∷ ks) need = omega (arith, size_last ks need)

-- the keys that stand there, as a table's entries are
pub keeps : (es : List (Need × ℕ)) (need : Need) → is_some (lookup ((eq-value).it need) es) ≡ true
    → with_need (keys_of es) need ≡ keys_of es
keeps es need there = rw
    (sym (ap (λ eq. list_any (eq need) (keys_of es)) eq_same) ∙ sym (found ((eq-value).it need) es) ∙ there) refl

pub adds : (es : List (Need × ℕ)) (need : Need) → is_some (lookup ((eq-value).it need) es) ≡ false
    → with_need (keys_of es) need ≡ keys_of es ++ need ∷ []
adds es need none = rw (sym (ap (λ eq. list_any (eq need) (keys_of es)) eq_same) ∙ sym (found ((eq-value).it need) es)
    ∙ none) refl

-- the entries with one more
pub record Grown (es new : List (Need × ℕ)) (need : Need) (size : ℕ) : Type 0 where
  pub starts : new ≡ starts_from 0 (keys_of new)
  pub keys : keys_of new ≡ keys_of es ++ need ∷ []
  pub size_is : size + size_of need ≡ total_size (keys_of new)

pub grown : (es : List (Need × ℕ)) (need : Need) (size : ℕ) → es ≡ starts_from 0 (keys_of es)
    → size ≡ total_size (keys_of es) → is_some (lookup ((eq-value).it need) es) ≡ false
    → Grown es (insert_entry ((eq-value).it) es need size) need size
grown es need size starts total none =
    let last = insert_last ((eq-value).it) es need size (sym (found ((eq-value).it need) es) ∙ none) in
    let ks = ap keys_of last ∙ keys_last es need size in
    let from_zero : size ≡ 0 + total_size (keys_of es) = omega arith in
    record {
      starts = last ∙ ap (λ f. f ++ (need, size) ∷ []) starts
          ∙ ap (λ n. starts_from 0 (keys_of es) ++ (need, n) ∷ []) from_zero ∙ sym (starts_last 0 (keys_of es) need)
          ∙ ap (starts_from 0) (sym ks);
      keys = ks;
      size_is = ap (λ n. n + size_of need) total ∙ sym (size_last (keys_of es) need) ∙ ap total_size (sym ks);
    }

-- a table whose entries are those keys
abbrev pub table : ImageKind → ℕ → List Need → Table
table kind block ks = record { kind = kind; block_offset = block; entries = ks }

module _ (kind : ImageKind) (block : ℕ) (ks : List Need) (now : Table) where
  -- the table as it was, with other entries
  pub table_with : (f : List Need → List Need) (new : List Need) → table kind block ks ≡ now → new ≡ f ks
      → table kind block new ≡ record { kind = now.kind; block_offset = now.block_offset; entries = f now.entries }
  table_with f new view e =
      let P : Table → Type 0 =
      λ t. table kind block new ≡ record { kind = t.kind; block_offset = t.block_offset; entries = f t.entries } in
      subst P view (ap (table kind block) e)

-- what is made of the key at a place
pub key_at : {X : Type 0} (f : Need → X) (es : List (Need × ℕ)) (n : ℕ)
    → option_map (λ p. f p.0) (slice_get es n) ≡ option_map f (slice_get (keys_of es) n)
key_at f [] n = refl
key_at f (e ∷ es) zero = refl
key_at f (e ∷ es) (suc n) = key_at f es n

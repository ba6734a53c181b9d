-- What a look, a reach and a load do with the blocks.
use Rattle.std.proofs.Common.{◌≡◌, ◌∙◌, ◌⊎◌, ◌++◌, ◌<◌, ◌^◌, ◌==◌, ℕ, Bool, true, false, List, [], ◌∷◌, Option, Some}
use Rattle.std.proofs.Common.{None, refl, sym, ap, inl, inr}
use Rattle.std.specs.Prelude.{◌||◌, IfSome, length, not}
use Rattle.std.specs.List.{flat_map}
use Rattle.std.specs.Option.{option_or}
use Rattle.std.proofs.lemmas.Bool.{and_parts, cases_Bool, cases_eq, eq-eqb, ne_eqb}
use Rattle.guest_machine.specs.Ranges.{Range}
use Rattle.loaded_modules.specs.declared.instance.Instance.{Instance}
use Rattle.thread_blocks.specs.Held.{Owned, block_after, block_bytes, block_with, data_after, data_bytes, data_with}
use Rattle.thread_blocks.specs.Held.{fresh_data, fresh_if, held_of, is_block, is_block_of, is_data_of}
use Rattle.thread_blocks.specs.Instances.{Loads}
use Rattle.tls_map_laws.specs.Map.{Act, has_storage}
use Rattle.tls_map_laws.proofs.Bytes.{bytes_after}
use Rattle.tls_map_laws.proofs.Entries.{AreData, Each, block_of, blocks, entry, entry_if}
use Rattle.tls_map_laws.proofs.Places.{Member}
use Rattle.tls_map_laws.proofs.Known.{IsLow}

module _ {B : Type 0} (l : Loads B) (thread : ℕ) where
  -- ** the block of a number among what is held

  first_is : (n : ℕ) (x : Owned B) (xs : List (Owned B)) → is_block_of n x.owner ≡ true
      → block_bytes n (x ∷ xs) ≡ Some x.range.bytes
  first_is n x xs t = rw t refl

  later_is : (n : ℕ) (x : Owned B) (xs : List (Owned B)) → is_block_of n x.owner ≡ false
      → block_bytes n (x ∷ xs) ≡ block_bytes n xs
  later_is n x xs f = rw f refl

  no_data : (n : ℕ) (rest : List (Owned B)) → AreData rest → block_bytes n rest ≡ None
  no_data n [] are = refl
  no_data n (x ∷ xs) are =
      let f = are.0.kind in
      later_is n x xs (rw f refl) ∙ no_data n xs are.1

  appended : (xs ys zs : List (Owned B)) → (xs ++ ys) ++ zs ≡ xs ++ (ys ++ zs)
  appended [] ys zs = refl
  appended (x ∷ xs) ys zs = ap (λ (more : List (Owned B)). x ∷ more) (appended xs ys zs)

  other_entry : (n : ℕ) (y : Instance) (acts : List (Act B)) (more : List (Owned B)) → (y.number ≡ n → ⊥)
      → block_bytes n (entry l thread acts y ++ more) ≡ block_bytes n more
  other_entry n y acts more ne = elim (cases_Bool (has_storage y.number acts)) [
    | inl t ↦ let no = ne_eqb y.number n ne in
        rw t (later_is n (block_of l thread y (bytes_after y.number (l.block y) acts)) more no)
    | inr f ↦ rw f refl
  ]

  own_entry : (x : Instance) (acts : List (Act B)) (more : List (Owned B)) → has_storage x.number acts ≡ true
      → block_bytes x.number (entry l thread acts x ++ more) ≡ Some (bytes_after x.number (l.block x) acts)
  own_entry x acts more t =
      rw t (first_is x.number (block_of l thread x (bytes_after x.number (l.block x) acts)) more
      (eq-eqb x.number x.number refl))

  -- x: the instance of its number
  pub found_yes : (x : Instance) (ys : List Instance) (acts : List (Act B)) (rest : List (Owned B))
      → Each (λ (z : Instance). z.number ≡ x.number → z ≡ x) ys → Member x ys → has_storage x.number acts ≡ true
      → block_bytes x.number (blocks l thread acts ys ++ rest) ≡ Some (bytes_after x.number (l.block x) acts)
  found_yes x [] acts rest one m has = absurd m
  found_yes x (y ∷ ys) acts rest one m has =
      ap (block_bytes x.number) (appended (entry l thread acts y) (blocks l thread acts ys) rest)
      ∙ by_number (cases_eq y.number x.number) m (λ later. found_yes x ys acts rest one.1 later has)
    where
      by_number : (y.number ≡ x.number) ⊎ (y.number ≡ x.number → ⊥) → (y ≡ x) ⊎ Member x ys
          → (Member x ys → block_bytes x.number (blocks l thread acts ys ++ rest)
          ≡ Some (bytes_after x.number (l.block x) acts))
          → block_bytes x.number (entry l thread acts y ++ (blocks l thread acts ys ++ rest))
          ≡ Some (bytes_after x.number (l.block x) acts)
      by_number (inl same) m later =
          ap (λ (z : Instance). block_bytes x.number (entry l thread acts z ++ (blocks l thread acts ys ++ rest)))
          (one.0 same)
          ∙ own_entry x acts (blocks l thread acts ys ++ rest) has
      by_number (inr ne) (inl is) later = absurd (ne (ap (λ (z : Instance). z.number) is))
      by_number (inr ne) (inr m) later = other_entry x.number y acts (blocks l thread acts ys ++ rest) ne ∙ later m

  pub found_no : (x : Instance) (ys : List Instance) (acts : List (Act B)) (rest : List (Owned B))
      → AreData rest → has_storage x.number acts ≡ false
      → block_bytes x.number (blocks l thread acts ys ++ rest) ≡ None
  found_no x [] acts rest are has = no_data x.number rest are
  found_no x (y ∷ ys) acts rest are has =
      ap (block_bytes x.number) (appended (entry l thread acts y) (blocks l thread acts ys) rest)
      ∙ (by_number (cases_eq y.number x.number) ∙ found_no x ys acts rest are has)
    where
      by_number : (y.number ≡ x.number) ⊎ (y.number ≡ x.number → ⊥)
          → block_bytes x.number (entry l thread acts y ++ (blocks l thread acts ys ++ rest))
          ≡ block_bytes x.number (blocks l thread acts ys ++ rest)
      by_number (inl same) =
          let none : has_storage y.number acts ≡ false = ap (λ (n : ℕ). has_storage n acts) same ∙ has in rw none refl
      by_number (inr ne) = other_entry x.number y acts (blocks l thread acts ys ++ rest) ne

  -- ** one instance

  -- what was done before is kept; else a fresh one, if it is wanted
  pub made_entry : (x : Instance) (acts acts' : List (Act B)) (wanted : Bool) (old : Option (List B))
      → has_storage x.number acts' ≡ (has_storage x.number acts || wanted)
      → bytes_after x.number (l.block x) acts' ≡ bytes_after x.number (l.block x) acts
      → (has_storage x.number acts ≡ true → old ≡ Some (bytes_after x.number (l.block x) acts))
      → (has_storage x.number acts ≡ false → old ≡ None)
      → (has_storage x.number acts ≡ false → bytes_after x.number (l.block x) acts ≡ l.block x)
      → block_with thread x (option_or old (fresh_if wanted (l.block x))) ≡ entry l thread acts' x
  made_entry x acts acts' wanted old has bytes some_old none_old untouched =
      elim (cases_Bool (has_storage x.number acts)) [
        | inl t ↦
            let now : has_storage x.number acts' ≡ true = has ∙ ap (λ (g : Bool). g || wanted) t in
            let some = some_old t in
            ap (λ (o : Option (List B)). block_with thread x (option_or o (fresh_if wanted (l.block x)))) some
            ∙ (ap (λ (bs : List B). block_of l thread x bs ∷ []) (sym bytes)
            ∙ sym (ap (λ (g : Bool). entry_if l thread g x (bytes_after x.number (l.block x) acts')) now))
        | inr f ↦
            let now : has_storage x.number acts' ≡ wanted = has ∙ ap (λ (g : Bool). g || wanted) f in
            let none = none_old f in
            ap (λ (o : Option (List B)). block_with thread x (option_or o (fresh_if wanted (l.block x)))) none
            ∙ (fresh_entry wanted
            ∙ (ap (λ (bs : List B). entry_if l thread wanted x bs) (sym (bytes ∙ untouched f))
            ∙ ap (λ (g : Bool). entry_if l thread g x (bytes_after x.number (l.block x) acts')) (sym now)))
      ]
    where
      fresh_entry : (g : Bool) → block_with thread x (fresh_if g (l.block x)) ≡ entry_if l thread g x (l.block x)
      fresh_entry true = refl
      fresh_entry false = refl

  -- ** all of them

  made_blocks : (live : List Instance) (acts' : List (Act B)) (f : Instance → List (Owned B))
      → Each (λ (y : Instance). f y ≡ entry l thread acts' y) live → flat_map f live ≡ blocks l thread acts' live
  made_blocks [] acts' f each = refl
  made_blocks (y ∷ live) acts' f each =
      ap (λ (e : List (Owned B)). e ++ flat_map f live) each.0
      ∙ ap (λ (more : List (Owned B)). entry l thread acts' y ++ more) (made_blocks live acts' f each.1)

  -- ** data

  abbrev IsSmall : List B → Type 0
  IsSmall bytes = length bytes < 2 ^ 39

  data_entry : (y : Instance) (range : Option (Range B)) (bytes : Option (List B)) (more : List (Owned B))
      → IfSome range IsLow → IfSome bytes IsSmall → AreData more → AreData (data_with y range bytes ++ more)
  data_entry y None bytes more low small are = are
  data_entry y (Some range) None more low small are = are
  data_entry y (Some range) (Some bytes) more low small are =
      (record { kind = refl; start = low.0; size = small }, are)

  -- data among what is held are small
  abbrev AreSmall : List (Owned B) → Type 0
  AreSmall xs = Each (λ (o : Owned B). is_block o.owner.kind ≡ false → IsSmall o.range.bytes) xs

  small_found : (n : ℕ) (xs : List (Owned B)) → AreSmall xs → IfSome (data_bytes n xs) IsSmall
  small_found n [] small = tt
  small_found n (x ∷ xs) small = elim (cases_Bool (is_data_of n x.owner)) [
    | inr f ↦ rw f (small_found n xs small.1)
    | inl t ↦
        let kind = (and_parts (not (is_block x.owner.kind)) (x.owner.instance == n) t).0 in
        rw t (small.0 (not_true (is_block x.owner.kind) kind))
  ]
    where
      not_true : (b : Bool) → not b ≡ true → b ≡ false
      not_true true e = cc
      not_true false e = refl

  small_or : (range : Option (Range B)) (loads : Bool) (old : Option (List B)) → IfSome range IsLow → IfSome old IsSmall
      → IfSome (option_or (fresh_data range loads) old) IsSmall
  small_or None loads old low small = small
  small_or (Some range) true old low small = low.1
  small_or (Some range) false old low small = small

  pub made_each : (loads : Instance → Bool) (xs : List (Owned B)) (live : List Instance)
      → Each (λ (y : Instance). IfSome (l.shared y) IsLow) live → AreSmall xs
      → AreData (flat_map (data_after l loads xs) live)
  made_each loads xs [] low small = tt
  made_each loads xs (y ∷ live) low small =
      data_entry y (l.shared y) _ _ low.0
      (small_or (l.shared y) (loads y) (data_bytes y.number xs) low.0 (small_found y.number xs small))
      (made_each loads xs live low.1 small)

  small_rest : (rest : List (Owned B)) → AreData rest → AreSmall rest
  small_rest [] are = tt
  small_rest (x ∷ xs) are = (λ kind. are.0.size, small_rest xs are.1)

  small_all : (acts : List (Act B)) (ys : List Instance) (rest : List (Owned B)) → AreData rest
      → AreSmall (blocks l thread acts ys ++ rest)
  small_all acts [] rest are = small_rest rest are
  small_all acts (y ∷ ys) rest are = elim (cases_Bool (has_storage y.number acts)) [
    | inl t ↦ rw t (λ kind. absurd (let k = kind in cc), small_all acts ys rest are)
    | inr f ↦ rw f (small_all acts ys rest are)
  ]

  -- a look leaves low data behind the blocks
  pub made_data : (loads : Instance → Bool) (acts : List (Act B)) (ys : List Instance) (rest : List (Owned B))
      (live : List Instance) → AreData rest → Each (λ (y : Instance). IfSome (l.shared y) IsLow) live
      → AreData (flat_map (data_after l loads (blocks l thread acts ys ++ rest)) live)
  made_data loads acts ys rest live are low =
      made_each loads (blocks l thread acts ys ++ rest) live low (small_all acts ys rest are)

  -- ** all that is held

  -- what is known of an instance that is live now
  pub record IsGood (ys : List Instance) (acts acts' : List (Act B)) (wanted : Instance → Bool) (y : Instance) : Type 0
    where
      -- it is the one of its number among those of which blocks may be held
      pub one : Each (λ (z : Instance). z.number ≡ y.number → z ≡ y) ys
      pub member : has_storage y.number acts ≡ true → Member y ys
      -- a thread that has no storage of it has not written there
      pub untouched : has_storage y.number acts ≡ false → bytes_after y.number (l.block y) acts ≡ l.block y
      pub has : has_storage y.number acts' ≡ (has_storage y.number acts || wanted y)
      pub bytes : bytes_after y.number (l.block y) acts' ≡ bytes_after y.number (l.block y) acts

  -- the law: looks, reaches and loads do with the blocks what their acts do with the map
  pub held_blocks : (wanted loads : Instance → Bool) (live ys : List Instance) (acts acts' : List (Act B))
      (rest : List (Owned B)) → AreData rest → Each (IsGood ys acts acts' wanted) live
      → held_of l thread wanted loads live (blocks l thread acts ys ++ rest)
      ≡ blocks l thread acts' live ++ flat_map (data_after l loads (blocks l thread acts ys ++ rest)) live
  held_blocks wanted loads live ys acts acts' rest are good =
      ap (λ (xs : List (Owned B)). xs ++ flat_map (data_after l loads (blocks l thread acts ys ++ rest)) live)
      (made_blocks live acts' (block_after l thread wanted (blocks l thread acts ys ++ rest)) (each_made live good))
    where
      each_made : (live : List Instance) → Each (IsGood ys acts acts' wanted) live
          → Each (λ (y : Instance). block_after l thread wanted (blocks l thread acts ys ++ rest) y
          ≡ entry l thread acts' y) live
      each_made [] good = tt
      each_made (y ∷ live) good = (
        made_entry y acts acts' (wanted y)
            (block_bytes y.number (blocks l thread acts ys ++ rest)) good.0.has good.0.bytes
            (λ t. found_yes y ys acts rest good.0.one (good.0.member t) t) (λ f. found_no y ys acts rest are f)
            good.0.untouched,
        each_made live good.1,
      )

-- The blocks that the map gives a thread, in the order of live instances, and what a store does with them.
use Rattle.std.proofs.Common.{◌≡◌, ◌∙◌, ◌-◌, ◌++◌, ◌&&◌, ◌<◌, ◌^◌, ℕ, Bool, true, false, List, [], ◌∷◌, length, refl}
use Rattle.std.proofs.Common.{sym, ap, subst, inl, inr}
use Rattle.std.specs.Prelude.{slice_set, if◌then◌else◌, nat_le, nat_lt}
use Rattle.std.proofs.lemmas.Bool.{cases_Bool, eq-eqb, ne_eqb}
use Rattle.guest_operands.specs.declared.space.Access.TheVariants.{Write}
use Rattle.guest_machine.specs.Ranges.{grants, with_byte}
use Rattle.loaded_modules.specs.declared.instance.Instance.{Instance}
use Rattle.thread_blocks.specs.Held.{Block, Owned, is_block, owners_of, ranges_in}
use Rattle.thread_blocks.specs.Instances.{Loads, block_range, block_start}
use Rattle.tls_map_laws.specs.Map.{Act, Wrote, has_storage}
use Rattle.tls_map_laws.specs.Acts.{is_in, stored_in}
use Rattle.tls_map_laws.proofs.Bytes.{bytes_after, bytes_long, set_long}

abbrev pub Each : {X : Type 0} → (X → Type 0) → List X → Type 0
Each P [] = Unit {0}
Each P (x ∷ xs) = P x × Each P xs

-- no two have one number
abbrev pub Distinct : List Instance → Type 0
Distinct [] = Unit {0}
Distinct (y ∷ ys) = Each (λ (z : Instance). z.number ≡ y.number → ⊥) ys × Distinct ys

-- data of an instance: they lie low, where no thread has its addresses
pub record IsLowData {B : Type 0} (x : Owned B) : Type 0 where
  pub kind : is_block x.owner.kind ≡ false
  pub start : x.range.start < 2 ^ 39
  pub size : length x.range.bytes < 2 ^ 39

abbrev pub AreData : {B : Type 0} → List (Owned B) → Type 0
AreData xs = Each IsLowData xs

module _ {B : Type 0} where
  -- ** a store among ranges with owners

  abbrev pub put_owned : List (Owned B) → ℕ → B → List (Owned B)
  put_owned [] place byte = []
  put_owned (x ∷ xs) place byte =
      if grants Write x.range place
      then record x { range = record x.range { bytes = slice_set x.range.bytes (place - x.range.start) byte } } ∷ xs
      else x ∷ put_owned xs place byte

  pub put_ranges : (xs : List (Owned B)) (place : ℕ) (byte : B)
      → ranges_in (put_owned xs place byte) ≡ with_byte (ranges_in xs) place byte
  put_ranges [] place byte = refl
  put_ranges (x ∷ xs) place byte = elim (cases_Bool (grants Write x.range place)) [
    | inl t ↦ rw t refl
    | inr f ↦ rw f (ap (λ rs. x.range ∷ rs) (put_ranges xs place byte))
  ]

  pub put_owners : (xs : List (Owned B)) (place : ℕ) (byte : B) → owners_of (put_owned xs place byte) ≡ owners_of xs
  put_owners [] place byte = refl
  put_owners (x ∷ xs) place byte = elim (cases_Bool (grants Write x.range place)) [
    | inl t ↦ rw t refl
    | inr f ↦ rw f (ap (λ os. x.owner ∷ os) (put_owners xs place byte))
  ]

  pub put_data : (xs : List (Owned B)) (place : ℕ) (byte : B) → AreData xs → AreData (put_owned xs place byte)
  put_data [] place byte are = tt
  put_data (x ∷ xs) place byte are = elim (cases_Bool (grants Write x.range place)) [
    | inl t ↦
        let at = place - x.range.start in
        let size = subst (λ (n : ℕ). n < 2 ^ 39) (sym (set_long x.range.bytes at byte)) are.0.size in
        rw t (record { kind = are.0.kind; start = are.0.start; size = size }, are.1)
    | inr f ↦ rw f (are.0, put_data xs place byte are.1)
  ]

  put_first : (x : Owned B) (xs : List (Owned B)) (place : ℕ) (byte : B) → grants Write x.range place ≡ true
      → put_owned (x ∷ xs) place byte
      ≡ record x { range = record x.range { bytes = slice_set x.range.bytes (place - x.range.start) byte } } ∷ xs
  put_first x xs place byte t = rw t refl

  put_later : (x : Owned B) (xs : List (Owned B)) (place : ℕ) (byte : B) → grants Write x.range place ≡ false
      → put_owned (x ∷ xs) place byte ≡ x ∷ put_owned xs place byte
  put_later x xs place byte f = rw f refl

module _ {B : Type 0} (l : Loads B) (thread : ℕ) where
  -- ** the blocks of the map

  abbrev pub block_of : Instance → List B → Owned B
  block_of x bytes =
      record { owner = record { kind = Block; instance = x.number }; range = block_range thread x bytes }

  abbrev pub entry_if : Bool → Instance → List B → List (Owned B)
  entry_if true x bytes = block_of x bytes ∷ []
  entry_if false x bytes = []

  abbrev pub entry : List (Act B) → Instance → List (Owned B)
  entry acts x = entry_if (has_storage x.number acts) x (bytes_after x.number (l.block x) acts)

  abbrev pub blocks : List (Act B) → List Instance → List (Owned B)
  blocks acts [] = []
  blocks acts (x ∷ xs) = entry acts x ++ blocks acts xs

  -- ** stores

  -- a write to another instance leaves the block
  entry_written : (y : Instance) (n k : ℕ) (byte : B) (acts : List (Act B)) → (n ≡ y.number → ⊥)
      → entry (Wrote n k byte ∷ acts) y ≡ entry acts y
  entry_written y n k byte acts ne = let no = ne_eqb n y.number ne in rw no refl

  entry_stored : (y : Instance) (ys : List Instance) (place : ℕ) (byte : B) (acts : List (Act B))
      → Each (λ (z : Instance). z.number ≡ y.number → ⊥) ys
      → entry (stored_in l thread ys place byte acts) y ≡ entry acts y
  entry_stored y [] place byte acts other = refl
  entry_stored y (z ∷ ys) place byte acts other =
      elim (cases_Bool (has_storage z.number acts && is_in l thread z place)) [
        | inl t ↦ rw t (entry_written y z.number (place - block_start thread z) byte acts other.0)
        | inr f ↦ rw f (entry_stored y ys place byte acts other.1)
      ]

  blocks_written : (ys : List Instance) (n k : ℕ) (byte : B) (acts : List (Act B))
      → Each (λ (z : Instance). z.number ≡ n → ⊥) ys → blocks (Wrote n k byte ∷ acts) ys ≡ blocks acts ys
  blocks_written [] n k byte acts other = refl
  blocks_written (y ∷ ys) n k byte acts other =
      ap (λ (e : List (Owned B)). e ++ blocks (Wrote n k byte ∷ acts) ys)
      (entry_written y n k byte acts (λ e. other.0 (sym e)))
      ∙ ap (λ (more : List (Owned B)). entry acts y ++ more) (blocks_written ys n k byte acts other.1)

  -- the data behind the blocks, after a store
  abbrev pub rest_of : List Instance → List (Act B) → List (Owned B) → ℕ → B → List (Owned B)
  rest_of [] acts rest place byte = put_owned rest place byte
  rest_of (y ∷ ys) acts rest place byte =
      if has_storage y.number acts && is_in l thread y place then rest else rest_of ys acts rest place byte

  pub rest_data : (ys : List Instance) (acts : List (Act B)) (rest : List (Owned B)) (place : ℕ) (byte : B)
      → AreData rest
      → AreData (rest_of ys acts rest place byte)
  rest_data [] acts rest place byte are = put_data rest place byte are
  rest_data (y ∷ ys) acts rest place byte are =
      elim (cases_Bool (has_storage y.number acts && is_in l thread y place)) [
        | inl t ↦ rw t are
        | inr f ↦ rw f (rest_data ys acts rest place byte are)
      ]

  grants_is : (y : Instance) (acts : List (Act B)) (place : ℕ)
      → grants Write (block_range thread y (bytes_after y.number (l.block y) acts)) place ≡ is_in l thread y place
  grants_is y acts place =
      ap (λ (long : ℕ). nat_le (block_start thread y) place && nat_lt (place - block_start thread y) long)
      (bytes_long y.number (l.block y) acts)

  -- the law: a store does with the blocks what its act does with the map
  pub stored_put : (ys : List Instance) (acts : List (Act B)) (rest : List (Owned B)) (place : ℕ) (byte : B)
      → Distinct ys
      → put_owned (blocks acts ys ++ rest) place byte
      ≡ blocks (stored_in l thread ys place byte acts) ys ++ rest_of ys acts rest place byte
  stored_put [] acts rest place byte own = refl
  stored_put (y ∷ ys) acts rest place byte own =
      let more = stored_put ys acts rest place byte own.1 in
      let bytes = bytes_after y.number (l.block y) acts in
      let after = stored_in l thread ys place byte acts in
      let after_all = stored_in l thread (y ∷ ys) place byte acts in
      let here = entry_stored y ys place byte acts own.0 in
      elim (cases_Bool (has_storage y.number acts)) [
        | inr f ↦
            let none : entry acts y ≡ [] = ap (λ (g : Bool). entry_if g y bytes) f in
            let stored : after_all ≡ after = rw f refl in
            let kept : rest_of (y ∷ ys) acts rest place byte ≡ rest_of ys acts rest place byte = rw f refl in
            ap (λ (e : List (Owned B)). put_owned ((e ++ blocks acts ys) ++ rest) place byte) none
            ∙ (more
            ∙ (ap (λ (e : List (Owned B)). (e ++ blocks after ys) ++ rest_of ys acts rest place byte)
            (sym (here ∙ none))
            ∙ (ap (λ (a : List (Act B)). blocks a (y ∷ ys) ++ rest_of ys acts rest place byte) (sym stored)
            ∙ ap (λ (r : List (Owned B)). blocks after_all (y ∷ ys) ++ r) (sym kept))))
        | inl t ↦ elim (cases_Bool (is_in l thread y place)) [
          | inr f ↦
              let one : entry acts y ≡ block_of y bytes ∷ [] = ap (λ (g : Bool). entry_if g y bytes) t in
              let stored : after_all ≡ after = rw (t, f) refl in
              let kept : rest_of (y ∷ ys) acts rest place byte ≡ rest_of ys acts rest place byte = rw (t, f) refl in
              ap (λ (e : List (Owned B)). put_owned ((e ++ blocks acts ys) ++ rest) place byte) one
              ∙ (put_later (block_of y bytes) (blocks acts ys ++ rest) place byte (grants_is y acts place ∙ f)
              ∙ (ap (λ (xs : List (Owned B)). block_of y bytes ∷ xs) more
              ∙ (ap (λ (e : List (Owned B)). (e ++ blocks after ys) ++ rest_of ys acts rest place byte)
              (sym (here ∙ one))
              ∙ (ap (λ (a : List (Act B)). blocks a (y ∷ ys) ++ rest_of ys acts rest place byte) (sym stored)
              ∙ ap (λ (r : List (Owned B)). blocks after_all (y ∷ ys) ++ r) (sym kept)))))
          | inl is ↦
              let same = eq-eqb y.number y.number refl in
              let at = place - block_start thread y in
              let new : entry (Wrote y.number at byte ∷ acts) y ≡ block_of y (slice_set bytes at byte) ∷ [] =
              rw (t, same) refl in
              let first : entry acts y ≡ block_of y bytes ∷ [] = ap (λ (g : Bool). entry_if g y bytes) t in
              let stored : after_all ≡ Wrote y.number at byte ∷ acts = rw (t, is) refl in
              let kept : rest_of (y ∷ ys) acts rest place byte ≡ rest = rw (t, is) refl in
              ap (λ (e : List (Owned B)). put_owned ((e ++ blocks acts ys) ++ rest) place byte) first
              ∙ (put_first (block_of y bytes) (blocks acts ys ++ rest) place byte (grants_is y acts place ∙ is)
              ∙ (ap (λ (xs : List (Owned B)). block_of y (slice_set bytes at byte) ∷ (xs ++ rest))
              (sym (blocks_written ys y.number at byte acts own.0))
              ∙ (ap (λ (e : List (Owned B)). (e ++ blocks (Wrote y.number at byte ∷ acts) ys) ++ rest) (sym new)
              ∙ (ap (λ (a : List (Act B)). blocks a (y ∷ ys) ++ rest) (sym stored)
              ∙ ap (λ (r : List (Owned B)). blocks after_all (y ∷ ys) ++ r) (sym kept)))))
        ]
      ]

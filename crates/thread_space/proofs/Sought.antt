-- The first range that allows an access, in ranges of which each instance has some.
use Rattle.std.proofs.Common.{◌≡◌, ◌≢◌, ◌∙◌, ◌-◌, ◌<◌, ◌++◌, ℕ, zero, suc, Bool, true, false, List, [], ◌∷◌, length}
use Rattle.std.proofs.Common.{Option, Some, None, refl, sym, ap, subst, arith, inl, inr, cond}
use Rattle.std.specs.Prelude.{◌&&◌, All, is_some, nat_le, nat_lt, option_and_then, slice_get}
use Rattle.std.specs.List.{find, flat_map}
use Rattle.std.specs.Option.{option_or}
use Rattle.std.proofs.lemmas.Bool.{cases_Bool, ltb-false, ltb-true, false≢true}
use Rattle.std.proofs.lemmas.List.Elements.{All-head, All-tail}
use Rattle.std.proofs.lemmas.Option.{none-some, same_Some, slice_get_past}
use Rattle.guest_operands.specs.declared.space.Access.{Access}
use Rattle.guest_operands.specs.declared.space.Access.TheVariants.{Write}
use Rattle.guest_operands.specs.Ranges.{Range, byte_in, grants, with_byte}
use Rattle.guest_operands.proofs.Sought.{byte_in-append, is_byte, lies_within}
use Rattle.thread_space.specs.Places.{behind, takes}

pub has_byte : {B : Type 0} (xs : List B) (i : ℕ) → i < length xs → is_some (slice_get xs i) ≡ true
has_byte [] i within = absurd (omega arith)
has_byte (x ∷ xs) zero within = refl
has_byte (x ∷ xs) (suc i) within = has_byte xs i (omega arith)

pub looked : (start place : ℕ) (bytes : List ℕ) (o : Option ℕ)
    → cond (nat_le start place && nat_lt (place - start) (length bytes)) (slice_get bytes (place - start)) o
    ≡ option_or (option_and_then (slice_get bytes) (behind start place)) o
looked start place bytes o = elim (cases_Bool (nat_le start place)) [
  | inl t ↦ rw t (inside (nat_lt (place - start) (length bytes)) refl)
  | inr f ↦ rw f refl
]
  where
    inside : (b : Bool) → nat_lt (place - start) (length bytes) ≡ b
        → cond b (slice_get bytes (place - start)) o ≡ option_or (slice_get bytes (place - start)) o
    inside true e = is_byte bytes (place - start) o (ltb-true (place - start) (length bytes) e)
    inside false e = sym (rw (slice_get_past bytes (place - start) (ltb-false (place - start) (length bytes) e)) refl)

module _ {B : Type 0} (access : Access) (place : ℕ) where
  module _ {X : Type 0} (made : X → List (Range B)) where
    has : X → Bool
    has x = is_some (byte_in access (made x) place)

    by_first : (b : Option B) (x : X) (rest : Option X) (o : Option B) → byte_in access (made x) place ≡ b
        → o ≡ option_and_then (λ x. byte_in access (made x) place) rest
        → option_or b o ≡ option_and_then (λ x. byte_in access (made x) place) (cond (is_some b) (Some x) rest)
    by_first None x rest o here there = there
    by_first (Some b) x rest o here there = sym here

    -- the one that has the place decides
    pub byte_in-each : (xs : List X)
        → byte_in access (flat_map made xs) place
        ≡ option_and_then (λ x. byte_in access (made x) place) (find (λ x. is_some (byte_in access (made x) place)) xs)
    byte_in-each [] = refl
    byte_in-each (x ∷ xs) =
        byte_in-append access place (made x) (flat_map made xs)
        ∙ by_first (byte_in access (made x) place) x (find (λ x. is_some (byte_in access (made x) place)) xs)
        (byte_in access (flat_map made xs) place) refl (byte_in-each xs)

    pub none_each : ((x : X) → byte_in access (made x) place ≡ None) → (xs : List X)
        → byte_in access (flat_map made xs) place ≡ None
    none_each none [] = refl
    none_each none (x ∷ xs) = byte_in-append access place (made x) (flat_map made xs) ∙ rw (none x) (none_each none xs)

-- two accesses that each allows alike
pub same_each : {X : Type 0} {B : Type 0} (one two : Access) (place : ℕ) (made : X → List (Range B))
    → ((x : X) → byte_in one (made x) place ≡ byte_in two (made x) place) → (xs : List X)
    → byte_in one (flat_map made xs) place ≡ byte_in two (flat_map made xs) place
same_each one two place made same [] = refl
same_each one two place made same (x ∷ xs) =
    byte_in-append one place (made x) (flat_map made xs)
    ∙ rw (same x, same_each one two place made same xs) (sym (byte_in-append two place (made x) (flat_map made xs)))

-- ** a byte that is written

module _ (place byte : ℕ) where
  pub with_byte-none : (xs : List (Range ℕ)) → takes xs place ≡ false → with_byte xs place byte ≡ xs
  with_byte-none [] none = refl
  with_byte-none (r ∷ xs) none = elim (cases_Bool (grants Write r place)) [
    | inl t ↦ absurd (false≢true (sym none ∙ rw t (has_byte r.bytes (place - r.start) (lies_within Write r place t))))
    | inr f ↦ rw f (ap (λ rest. r ∷ rest) (with_byte-none xs (sym (rw f refl) ∙ none)))
  ]

  pub with_byte-here : (xs ys : List (Range ℕ)) → takes xs place ≡ true
      → with_byte (xs ++ ys) place byte ≡ with_byte xs place byte ++ ys
  with_byte-here [] ys here = absurd (false≢true here)
  with_byte-here (r ∷ xs) ys here = elim (cases_Bool (grants Write r place)) [
    | inl t ↦ rw t refl
    | inr f ↦ rw f (ap (λ rest. r ∷ rest) (with_byte-here xs ys (sym (rw f refl) ∙ here)))
  ]

  pub with_byte-behind : (xs ys : List (Range ℕ)) → takes xs place ≡ false
      → with_byte (xs ++ ys) place byte ≡ xs ++ with_byte ys place byte
  with_byte-behind [] ys none = refl
  with_byte-behind (r ∷ xs) ys none = elim (cases_Bool (grants Write r place)) [
    | inl t ↦ absurd (false≢true (sym none ∙ rw t (has_byte r.bytes (place - r.start) (lies_within Write r place t))))
    | inr f ↦ rw f (ap (λ rest. r ∷ rest) (with_byte-behind xs ys (sym (rw f refl) ∙ none)))
  ]

-- numbers that rise along a list
abbrev pub Rising : {X : Type 0} → (X → ℕ) → List X → Type 0
Rising number [] = Unit {0}
Rising number (x ∷ xs) = All (λ y. number x < number y) xs × Rising number xs

-- what is found has what each has
pub found_has : {X : Type 0} (P : X → Type 0) (test : X → Bool) (xs : List X) (x : X) → All P xs → find test xs ≡ Some x
    → P x
found_has P test [] x all found = absurd (none-some x found)
found_has P test (y ∷ xs) x all found = elim (cases_Bool (test y)) [
  | inl t ↦ subst P (same_Some y x (sym (rw t refl) ∙ found)) (All-head P y xs all)
  | inr f ↦ found_has P test xs x (All-tail P y xs all) (sym (rw f refl) ∙ found)
]

pub found_passes : {X : Type 0} (test : X → Bool) (xs : List X) (x : X) → find test xs ≡ Some x → test x ≡ true
found_passes test [] x found = absurd (none-some x found)
found_passes test (y ∷ xs) x found = elim (cases_Bool (test y)) [
  | inl t ↦ subst (λ z. test z ≡ true) (same_Some y x (sym (rw t refl) ∙ found)) t
  | inr f ↦ found_passes test xs x (sym (rw f refl) ∙ found)
]

-- only the ranges of the one that takes the byte change
module _ {X : Type 0} (place byte : ℕ) (number : X → ℕ) (P : X → Type 0) (made made' : X → List (Range ℕ)) (x : X)
    (here : made' x ≡ with_byte (made x) place byte)
    (others : (y : X) → P y → number y ≢ number x → made' y ≡ made y) where
  others_same : (xs : List X) → All P xs → All (λ y. number x < number y) xs → flat_map made' xs ≡ flat_map made xs
  others_same [] all above = refl
  others_same (y ∷ xs) all above =
      let after : number x < number y = All-head (λ y. number x < number y) y xs above in
      let rest = others_same xs (All-tail P y xs all) (All-tail (λ y. number x < number y) y xs above) in
      rw (others y (All-head P y xs all) (λ e. omega (arith, e)), rest) refl

  pub with_byte-each : (xs : List X) → All P xs → Rising number xs → find (λ y. takes (made y) place) xs ≡ Some x
      → flat_map made' xs ≡ with_byte (flat_map made xs) place byte
  with_byte-each [] all rising found = absurd (none-some x found)
  with_byte-each (y ∷ xs) all rising found = elim (cases_Bool (takes (made y) place)) [
    | inl t ↦
        let same : y ≡ x = same_Some y x (sym (rw t refl) ∙ found) in
        let above : All (λ z. number x < number z) xs =
        subst (λ (w : X). All (λ z. number w < number z) xs) same rising.0 in
        let first : made' y ≡ with_byte (made y) place byte =
        subst (λ (w : X). made' w ≡ with_byte (made w) place byte) (sym same) here in
        rw (first, others_same xs (All-tail P y xs all) above)
        (sym (with_byte-here place byte (made y) (flat_map made xs) t))
    | inr f ↦
        let there : find (λ y. takes (made y) place) xs ≡ Some x = sym (rw f refl) ∙ found in
        let below : number y < number x =
        found_has (λ z. number y < number z) (λ y. takes (made y) place) xs x rising.0 there in
        let rest = with_byte-each xs (All-tail P y xs all) rising.1 there in
        rw (others y (All-head P y xs all) (λ e. omega (arith, e)), rest)
        (sym (with_byte-behind place byte (made y) (flat_map made xs) f))
  ]

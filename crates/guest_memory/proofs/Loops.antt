-- What the loops over bytes keep, and that one more byte keeps it.
use Rattle.std.proofs.Common.{◌≡◌, ℕ, suc, ◌+◌, ◌-◌, ◌<◌, ◌≤◌, true, false, List, [], ◌∷◌, ◌++◌, length, take, set}
use Rattle.std.proofs.Common.{Option, Some, None, refl, sym, ap, ◌∙◌, append_assoc, append-nil, length-take, arith}
use Rattle.std.proofs.lemmas.List.{take_more_set}
use Rattle.std.specs.Prelude.{is_some, option_map, option_and_then}
use Rattle.guest_operands.specs.declared.space.Access.TheVariants.{Read, Write, Run}
use Rattle.guest_arithmetic.specs.Values.{Operations}
use Rattle.guest_operands.specs.Access.{next_place, bytes_from, put_all, code_at, fetch_of}
use Rattle.guest_operands.specs.Ranges.{Range, AddressSpace, byte_in, with_byte}
use Rattle.guest_operands.specs.RangeLaws.{range_accesses}
use Rattle.guest_memory.specs.Several.{before, bytes_in, all_writable}

-- the bytes that are asked are those that were read and those that are left
abbrev pub IsReadTo : {B : Type 0} → List (Range B) → ℕ → ℕ → List B → ℕ → ℕ → Type 0
IsReadTo ranges place size bytes at k =
    bytes_in ranges place size ≡ option_map (λ rest. take k bytes ++ rest) (bytes_in ranges at (size - k))

before-map : {B : Type 0} (xs : List B) (b : B) (o : Option (List B))
    → option_map (λ rest. xs ++ rest) (before (Some b) o) ≡ option_map (λ rest. (xs ++ b ∷ []) ++ rest) o
before-map xs b None = refl
before-map xs b (Some bs) = ap Some (sym (append_assoc xs (b ∷ []) bs))

map-nil : {B : Type 0} (o : Option (List B)) → o ≡ option_map (λ rest. [] ++ rest) o
map-nil None = refl
map-nil (Some bs) = refl

module _ {B : Type 0} (ranges : List (Range B)) (place size : ℕ) where
  pub read-all : (bytes : List B) (at k : ℕ) → k ≡ size → IsReadTo ranges place size bytes at k
      → bytes_in ranges place size ≡ Some (take size bytes)
  read-all bytes at k end so_far =
      let none : size - k ≡ 0 = omega arith in
      (rw (none, end) at so_far) ∙ ap Some (append-nil (take size bytes))

-- what is left to be written decides
abbrev pub IsWritableTo : {B : Type 0} → List (Range B) → ℕ → ℕ → ℕ → ℕ → Type 0
IsWritableTo ranges place size at k = all_writable ranges place size ≡ all_writable ranges at (size - k)

module _ {B : Type 0} (ranges : List (Range B)) (place size : ℕ) where
  pub writable-more : (at k : ℕ) → k < size → is_some (byte_in Write ranges at) ≡ true
      → IsWritableTo ranges place size at k → IsWritableTo ranges place size (next_place at) (k + 1)
  writable-more at k below found so_far =
      let more : size - k ≡ suc (size - (k + 1)) = omega arith in
      rw (more, found) at so_far

  pub writable-not : (at k : ℕ) → k < size → is_some (byte_in Write ranges at) ≡ false
      → IsWritableTo ranges place size at k → all_writable ranges place size ≡ false
  writable-not at k below none so_far =
      let more : size - k ≡ suc (size - (k + 1)) = omega arith in
      rw (more, none) at so_far

  pub writable-all : (at k : ℕ) → k ≡ size → IsWritableTo ranges place size at k → all_writable ranges place size ≡ true
  writable-all at k end so_far =
      let none : size - k ≡ 0 = omega arith in
      rw none at so_far

-- what is left to be put leads to the whole
abbrev pub IsStoredTo : {W F B : Type 0} → Operations W F B → AddressSpace B → ℕ → ℕ → W → AddressSpace B → ℕ → ℕ
    → Type 0
IsStoredTo ops old place size word now at k =
    put_all (range_accesses ops) now at (bytes_from ops word k (size - k))
    ≡ put_all (range_accesses ops) old place (bytes_from ops word 0 size)

module _ {W F B : Type 0} (ops : Operations W F B) (old : AddressSpace B) (place size : ℕ) (word : W) where
  pub store-more : (now next : AddressSpace B) (at k : ℕ) → k < size
      → next ≡ record now { ranges = with_byte now.ranges at (ops.byte_of word k) }
      → IsStoredTo ops old place size word now at k → IsStoredTo ops old place size word next (next_place at) (k + 1)
  unfolding range_accesses
  store-more now next at k below put so_far =
      let more : size - k ≡ suc (size - (k + 1)) = omega arith in
      rw put (rw more at so_far)

  pub store-all : (now : AddressSpace B) (at k : ℕ) → k ≡ size → IsStoredTo ops old place size word now at k
      → now ≡ put_all (range_accesses ops) old place (bytes_from ops word 0 size)
  store-all now at k end so_far =
      let none : size - k ≡ 0 = omega arith in
      rw none at so_far

-- the code that is fetched is what was copied and what is left
abbrev pub IsFetchedTo : {W F B : Type 0} → Operations W F B → AddressSpace B → ℕ → List ℕ → ℕ → ℕ → Type 0
IsFetchedTo ops memory place into at k =
    fetch_of (range_accesses ops) memory place ≡ take k into ++ code_at (range_accesses ops) memory at (15 - k)

module _ {W F B : Type 0} (ops : Operations W F B) (memory : AddressSpace B) (place : ℕ) where
  pub fetch-start : (into : List ℕ) → IsFetchedTo ops memory place into place 0
  unfolding fetch_of
  fetch-start into = refl

  pub fetch-more : (into : List ℕ) (at k code : ℕ) (b : B) → k < 15 → k < length into
      → byte_in Run memory.ranges at ≡ Some b → ops.code b ≡ Some code
      → IsFetchedTo ops memory place into at k → IsFetchedTo ops memory place (set into k code) (next_place at) (k + 1)
  unfolding range_accesses
  fetch-more into at k code b below room found is_code so_far =
      let more : 15 - k ≡ suc (15 - (k + 1)) = omega arith in
      (rw (more, found, is_code) at so_far)
      ∙ (rw (take_more_set into k code room)
      (sym (append_assoc (take k into) (code ∷ [])
      (code_at (range_accesses ops) memory (next_place at) (15 - (k + 1))))))

  pub fetch-none : (into : List ℕ) (at k : ℕ) → k < 15 → option_and_then ops.code (byte_in Run memory.ranges at) ≡ None
      → IsFetchedTo ops memory place into at k → take k into ≡ fetch_of (range_accesses ops) memory place
  unfolding range_accesses
  fetch-none into at k below none so_far =
      let more : 15 - k ≡ suc (15 - (k + 1)) = omega arith in
      sym ((rw (more, none) at so_far) ∙ append-nil (take k into))

  pub fetch-all : (into : List ℕ) (at k : ℕ) → k ≡ 15 → IsFetchedTo ops memory place into at k
      → take 15 into ≡ fetch_of (range_accesses ops) memory place
  fetch-all into at k end so_far =
      let none : 15 - k ≡ 0 = omega arith in
      sym ((rw (none, end) at so_far) ∙ append-nil (take 15 into))

pub no-byte : {A C : Type 0} (f : A → Option C) (o : Option A) → o ≡ None → option_and_then f o ≡ None
no-byte f o none = rw none refl

pub no-code : {A C : Type 0} (f : A → Option C) (o : Option A) (x : A) → o ≡ Some x → f x ≡ None
    → option_and_then f o ≡ None
no-code f o x some none = rw (some, none) refl

pub front_length : (k : ℕ) (into xs : List ℕ) → k ≤ length into → take k into ≡ xs → k ≡ length xs
front_length k into xs within front = omega (arith, length-take k into, ap length front)

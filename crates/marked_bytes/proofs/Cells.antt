-- What a byte is, and what a write leaves of the bytes.
use Rattle.std.proofs.Common.{◌≡◌, ◌∙◌, ◌+◌, ◌-◌, ◌++◌, ◌<◌, ◌≤◌, ◌≢◌, ◌⊎◌, ℕ, zero, suc, List, [], ◌∷◌, drop, length}
use Rattle.std.proofs.Common.{map, replicate, take, Option, None, Some, refl, sym, ap, subst, arith, inl, inr}
use Rattle.std.specs.Prelude.{slice_get, slice_index_or, slice_set}
use Rattle.std.proofs.lemmas.Bool.{cases_eq}
use Rattle.std.proofs.lemmas.Grind.{elements}
use Rattle.std.proofs.lemmas.List.{get_or-map, get_or-set_same, get_or-set_other, get_or_append_left, length-map}
use Rattle.std.proofs.lemmas.List.{length-set}
use Rattle.std.proofs.lemmas.List.FromFn.{fill_by_all, get_or-map-range_with_len, length-map-range_with_len}
use Rattle.std.proofs.lemmas.Option.{slice_get-get_or}
use Rattle.job_meaning.specs.declared.values.Byte.{Byte}
use Rattle.job_meaning.specs.declared.values.Byte.TheVariants.{Hidden, Value}
use Rattle.marked_bytes.specs.Cells.{bytes_from, cell, cell_of, marked}
use Rattle.marked_bytes.specs.Kept.{AreSlots}

-- ** how many have a mark

pub marked_few : (slots : List ℕ) → marked slots ≤ length slots
marked_few [] = omega arith
marked_few (zero ∷ slots) = omega (arith, marked_few slots)
marked_few (suc n ∷ slots) = omega (arith, marked_few slots)

-- where one has none, there is room for one more
pub room_left : (slots : List ℕ) (k : ℕ) → k < length slots → slice_index_or slots k 0 ≡ 0 → marked slots < length slots
room_left [] k h plain = absurd (omega arith)
room_left (zero ∷ slots) k h plain = omega (arith, marked_few slots)
room_left (suc n ∷ slots) zero h plain = absurd (omega (arith, plain))
room_left (suc n ∷ slots) (suc k) h plain = omega (arith, room_left slots k (omega arith) plain)

one_more : (slots : List ℕ) (k n : ℕ) → k < length slots → slice_index_or slots k 0 ≡ 0
    → marked (slice_set slots k (suc n)) ≡ suc (marked slots)
one_more [] k n h plain = absurd (omega arith)
one_more (zero ∷ slots) zero n h plain = refl
one_more (suc m ∷ slots) zero n h plain = absurd (omega (arith, plain))
one_more (zero ∷ slots) (suc k) n h plain = one_more slots k n (omega arith) plain
one_more (suc m ∷ slots) (suc k) n h plain = ap suc (one_more slots k n (omega arith) plain)

none_of_zeros : (n : ℕ) → marked (replicate n 0) ≡ 0
none_of_zeros zero = refl
none_of_zeros (suc n) = none_of_zeros n

zeros_add_none : (slots : List ℕ) (n : ℕ) → marked (slots ++ replicate n 0) ≡ marked slots
zeros_add_none [] n = none_of_zeros n
zeros_add_none (zero ∷ slots) n = zeros_add_none slots n
zeros_add_none (suc m ∷ slots) n = ap suc (zeros_add_none slots n)

zero_in_zeros : (n k : ℕ) → ◌≡◌ {A = ℕ} (slice_index_or (replicate n 0) k 0) 0
zero_in_zeros zero k = refl
zero_in_zeros (suc n) zero = refl
zero_in_zeros (suc n) (suc k) = zero_in_zeros n k

pub zeros_change_none : (slots : List ℕ) (n k : ℕ)
    → slice_index_or (slots ++ replicate n 0) k 0 ≡ slice_index_or slots k 0
zeros_change_none [] n k = zero_in_zeros n k
zeros_change_none (m ∷ slots) n zero = refl
zeros_change_none (m ∷ slots) n (suc k) = zeros_change_none slots n k

-- ** one byte more has a mark

module _ (slots : List ℕ) (count : ℕ) (are : AreSlots slots count) where
  pub padded : (n : ℕ) → AreSlots (slots ++ replicate n 0) count
  padded n = record {
    apart = λ k l number at also. are.apart k l number (sym (zeros_change_none slots n k) ∙ at)
        (sym (zeros_change_none slots n l) ∙ also);
    within = λ k number at. are.within k number (sym (zeros_change_none slots n k) ∙ at);
    each = zeros_add_none slots n ∙ are.each;
  }

  pub added : (k : ℕ) → k < length slots → slice_index_or slots k 0 ≡ 0
      → AreSlots (slice_set slots k (suc count)) (suc count)
  added i low plain = record {
    apart = λ k l number at also. apart k l number (cases_eq k i) (cases_eq l i) at also;
    within = λ k number at. within k number (cases_eq k i) at;
    each = one_more slots i count low plain ∙ ap suc are.each;
  }
    where
      new : ℕ → ℕ
      new k = slice_index_or (slice_set slots i (suc count)) k 0

      same : new i ≡ suc count
      same = get_or-set_same slots i (suc count) 0 low

      other : (k : ℕ) → k ≢ i → new k ≡ slice_index_or slots k 0
      other k differs = get_or-set_other slots i k (suc count) 0 differs

      below : (k number : ℕ) → k ≢ i → new k ≡ suc number → number < count
      below k number differs at = are.within k number (sym (other k differs) ∙ at)

      whole : (number : ℕ) → new i ≡ suc number → number ≡ count
      whole number at = omega (arith, same, at)

      apart : (k l number : ℕ) → (k ≡ i) ⊎ (k ≢ i) → (l ≡ i) ⊎ (l ≢ i) → new k ≡ suc number → new l ≡ suc number → k ≡ l
      apart k l number (inl e) (inl f) at also = e ∙ sym f
      apart k l number (inl e) (inr f) at also =
          let top = whole number (subst (λ j. new j ≡ suc number) e at) in
          absurd (omega (arith, below l number f also, top))
      apart k l number (inr e) (inl f) at also =
          let top = whole number (subst (λ j. new j ≡ suc number) f also) in
          absurd (omega (arith, below k number e at, top))
      apart k l number (inr e) (inr f) at also = are.apart k l number (sym (other k e) ∙ at) (sym (other l f) ∙ also)

      within : (k number : ℕ) → (k ≡ i) ⊎ (k ≢ i) → new k ≡ suc number → number < suc count
      within k number (inl e) at = let top = whole number (subst (λ j. new j ≡ suc number) e at) in omega (arith, top)
      within k number (inr e) at = let low = below k number e at in omega (arith, low)

-- ** bytes

pub long : (values slots : List ℕ) (marks : List Byte) → length (bytes_from values slots marks) ≡ length values
unfolding bytes_from
long values slots marks = length-map-range_with_len (cell values slots marks) 0 (length values)

module _ (values slots : List ℕ) (marks : List Byte) where
  byte_or : (k : ℕ) (d : Byte) → k < length values
      → slice_index_or (bytes_from values slots marks) k d ≡ cell values slots marks k
  unfolding bytes_from
  byte_or k d low = get_or-map-range_with_len (cell values slots marks) 0 (length values) k k d low (omega arith)

  pub byte_is : (k : ℕ) → k < length values
      → slice_get (bytes_from values slots marks) k ≡ Some (cell values slots marks k)
  byte_is k low =
      slice_get-get_or (bytes_from values slots marks) k Hidden (subst (λ n. k < n) (sym (long values slots marks)) low)
      ∙ ap Some (byte_or k Hidden low)

  -- bytes of which one alone differs
  pub with_one : (values' slots' : List ℕ) (marks' : List Byte) (i : ℕ) (b : Byte) → i < length values
      → length values' ≡ length values
      → cell values' slots' marks' i ≡ b
      → ((k : ℕ) → k < length values → k ≢ i → cell values' slots' marks' k ≡ cell values slots marks k)
      → bytes_from values' slots' marks' ≡ slice_set (bytes_from values slots marks) i b
  unfolding bytes_from
  with_one values' slots' marks' i b low count here others =
      let old = bytes_from values slots marks in
      let old_len = long values slots marks in
      let set_len = length-set old i b in
      sym (fill_by_all (cell values' slots' marks') (slice_set old i b) (length values') b
      (omega (arith, old_len, set_len, count))
      (λ k below. at k (omega (arith, below, count)) (cases_eq k i)))
    where
      at : (k : ℕ) → k < length values → (k ≡ i) ⊎ (k ≢ i)
          → slice_index_or (slice_set (bytes_from values slots marks) i b) k b ≡ cell values' slots' marks' k
      at k below (inl e) =
          subst (λ j. slice_index_or (slice_set (bytes_from values slots marks) i b) j b ≡ cell values' slots' marks' j)
          (sym e)
          (get_or-set_same (bytes_from values slots marks) i b b
          (subst (λ n. i < n) (sym (long values slots marks)) low) ∙ sym here)
      at k below (inr e) =
          get_or-set_other (bytes_from values slots marks) i k b b e ∙ byte_or k b below ∙ sym (others k below e)

  -- a byte without a mark gets a value
  pub value_set : (i v : ℕ) → i < length values → slice_index_or slots i 0 ≡ 0
      → bytes_from (slice_set values i v) slots marks ≡ slice_set (bytes_from values slots marks) i (Value v)
  value_set i v low plain =
      with_one (slice_set values i v) slots marks i (Value v) low (length-set values i v)
      (ap (λ n. cell_of n (slice_index_or (slice_set values i v) i 0) marks) plain
      ∙ ap Value (get_or-set_same values i v 0 low))
      (λ k below differs. ap (λ n. cell_of (slice_index_or slots k 0) n marks)
      (get_or-set_other values i k v 0 differs))

  -- a byte's mark is written
  pub mark_set : (are : AreSlots slots (length marks)) (i number : ℕ) (b : Byte) → i < length values
      → slice_index_or slots i 0 ≡ suc number
      → bytes_from values slots (slice_set marks number b) ≡ slice_set (bytes_from values slots marks) i b
  mark_set are i number b low has =
      with_one values slots (slice_set marks number b) i b low refl
      (ap (λ n. cell_of n (slice_index_or values i 0) (slice_set marks number b)) has
      ∙ get_or-set_same marks number b Hidden (are.within i number has))
      (λ k below differs. other k differs (slice_index_or slots k 0) refl)
    where
      other : (k : ℕ) → k ≢ i → (n : ℕ) → slice_index_or slots k 0 ≡ n
          → cell values slots (slice_set marks number b) k ≡ cell values slots marks k
      other k differs zero is =
          ap (λ m. cell_of m (slice_index_or values k 0) (slice_set marks number b)) is
          ∙ sym (ap (λ m. cell_of m (slice_index_or values k 0) marks) is)
      other k differs (suc n) is =
          ap (λ m. cell_of m (slice_index_or values k 0) (slice_set marks number b)) is
          ∙ get_or-set_other marks number n b Hidden (λ e. differs (are.apart k i number (is ∙ ap suc e) has))
          ∙ sym (ap (λ m. cell_of m (slice_index_or values k 0) marks) is)

  -- a byte gets a mark
  pub mark_added : (are : AreSlots slots (length marks)) (i n : ℕ) (b : Byte) → i < length values
      → i < length (slots ++ replicate n 0)
      → slice_index_or slots i 0 ≡ 0
      → bytes_from values (slice_set (slots ++ replicate n 0) i (suc (length marks))) (marks ++ b ∷ [])
      ≡ slice_set (bytes_from values slots marks) i b
  mark_added are i n b low wide plain =
      with_one values (slice_set padded_slots i (suc (length marks))) (marks ++ b ∷ []) i b low refl
      (ap (λ m. cell_of m (slice_index_or values i 0) (marks ++ b ∷ []))
      (get_or-set_same padded_slots i (suc (length marks)) 0 wide)
      ∙ grind (arith, elements))
      (λ k below differs. other k differs (slice_index_or slots k 0) refl)
    where
      padded_slots : List ℕ
      padded_slots = slots ++ replicate n 0

      as_before : (k : ℕ) → k ≢ i
          → slice_index_or (slice_set padded_slots i (suc (length marks))) k 0 ≡ slice_index_or slots k 0
      as_before k differs = get_or-set_other padded_slots i k (suc (length marks)) 0 differs
          ∙ zeros_change_none slots n k

      other : (k : ℕ) → k ≢ i → (m : ℕ) → slice_index_or slots k 0 ≡ m
          → cell values (slice_set padded_slots i (suc (length marks))) (marks ++ b ∷ []) k ≡ cell values slots marks k
      other k differs zero is =
          ap (λ m. cell_of m (slice_index_or values k 0) (marks ++ b ∷ [])) (as_before k differs ∙ is)
          ∙ sym (ap (λ m. cell_of m (slice_index_or values k 0) marks) is)
      other k differs (suc m) is =
          let low_mark = are.within k m is in
          ap (λ m. cell_of m (slice_index_or values k 0) (marks ++ b ∷ [])) (as_before k differs ∙ is)
          ∙ get_or_append_left marks (b ∷ []) Hidden m low_mark
          ∙ sym (ap (λ m. cell_of m (slice_index_or values k 0) marks) is)

-- ** values alone

pub of_values : (values : List ℕ) → bytes_from values [] [] ≡ map Value values
unfolding bytes_from
of_values values =
    sym (fill_by_all (cell values [] []) (map Value values) (length values) Hidden (length-map values Value)
    (λ k low. get_or-map Value values k 0 Hidden low))

-- ** as contracts see them

module _ (values slots : List ℕ) (marks bytes : List Byte) (seen : bytes_from values slots marks ≡ bytes) where
  pub as_many : length values ≡ length bytes
  as_many = sym (long values slots marks) ∙ ap length seen

  pub inside : (k : ℕ) → k < length bytes → k < length values
  inside k low = omega (arith, as_many, low)

  pub plain_byte : (k : ℕ) → k < length bytes → slice_index_or slots k 0 ≡ 0
      → slice_get bytes k ≡ Some (Value (slice_index_or values k 0))
  plain_byte k low plain =
      ap (λ xs. slice_get xs k) (sym seen) ∙ byte_is values slots marks k (inside k low)
      ∙ ap (λ n. Some (cell_of n (slice_index_or values k 0) marks)) plain

  pub marked_byte : (k number : ℕ) → k < length bytes → slice_index_or slots k 0 ≡ suc number
      → slice_get bytes k ≡ Some (slice_index_or marks number Hidden)
  marked_byte k number low has =
      ap (λ xs. slice_get xs k) (sym seen) ∙ byte_is values slots marks k (inside k low)
      ∙ ap (λ n. Some (cell_of n (slice_index_or values k 0) marks)) has

-- ** a part of a list

module _ {B : Type 0} where
  pub none_taken : (xs : List B) (n : ℕ) → [] ≡ take (n - n) xs
  none_taken xs n = let none : 0 ≡ n - n = omega arith in ap (λ m. take m xs) none

  one_more_taken : (xs : List B) (start n : ℕ) (b : B) → slice_get xs (start + n) ≡ Some b
      → take n (drop start xs) ++ b ∷ [] ≡ take (n + 1) (drop start xs)
  one_more_taken [] start n b is = absurd (nothing is)
    where
      nothing : ◌≡◌ {A = Option B} None (Some b) → ⊥
      nothing e = cc
  one_more_taken (x ∷ xs) (suc start) n b is =
      let next : suc start + n ≡ suc (start + n) = omega arith in
      one_more_taken xs start n b (ap (slice_get (x ∷ xs)) (sym next) ∙ is)
  one_more_taken (x ∷ xs) zero n b is = of_front (x ∷ xs) n b (ap (slice_get (x ∷ xs)) (omega arith) ∙ is)
    where
      of_front : (ys : List B) (m : ℕ) (c : B) → slice_get ys m ≡ Some c → take m ys ++ c ∷ [] ≡ take (m + 1) ys
      of_front [] m c e = absurd (nothing e)
        where
          nothing : ◌≡◌ {A = Option B} None (Some c) → ⊥
          nothing e = cc
      of_front (y ∷ ys) zero c e = ap (λ z. z ∷ []) (sym (some_is y c e))
        where
          some_is : (p q : B) → ◌≡◌ {A = Option B} (Some p) (Some q) → p ≡ q
          some_is p q same = cc
      of_front (y ∷ ys) (suc m) c e =
          let on : suc m + 1 ≡ suc (m + 1) = omega arith in
          ap (λ zs. y ∷ zs) (of_front ys m c e) ∙ ap (λ n. take n (y ∷ ys)) (sym on)

  pub next_taken : (xs : List B) (start k : ℕ) (b : B) → start ≤ k → slice_get xs k ≡ Some b
      → take (k - start) (drop start xs) ++ b ∷ [] ≡ take (k + 1 - start) (drop start xs)
  next_taken xs start k b low is =
      one_more_taken xs start (k - start) b (ap (slice_get xs) (omega (arith, low)) ∙ is)
      ∙ ap (λ n. take n (drop start xs)) (omega (arith, low))

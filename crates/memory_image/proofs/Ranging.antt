-- What is made of tables is what the meaning loads.
use Rattle.std.proofs.Common.{◌≡◌, ◌≤◌, ◌+◌, ◌-◌, ◌^◌, ◌∙◌, ℕ, zero, suc, Bool, true, false, List, [], ◌∷◌, ◌++◌}
use Rattle.std.proofs.Common.{Option, None, Some, IsSome, length, map, replicate, refl, sym, ap, arith, inl, inr}
use Rattle.std.specs.Prelude.{◌&&◌, nat_le, nat_lt, option_map, slice_get, if◌then◌else◌}
use Rattle.std.specs.List.{range_with_len}
use Rattle.std.specs.Option.{option_or}
use Rattle.std.proofs.lemmas.Bool.{and_parts, cases_lt, le-ltb, lt-ltb, ltb-true}
use Rattle.std.proofs.lemmas.List.{length-append, length-replicate}
use Rattle.std.proofs.lemmas.List.FromFn.{length-map-range_with_len, map-range_with_len_more}
use Rattle.std.proofs.lemmas.Option.{slice_get-get_or}
use Rattle.guest_operands.specs.declared.space.Access.{Access}
use Rattle.guest_operands.specs.declared.space.Access.TheVariants.{Read, Write, Run}
use Rattle.guest_operands.specs.Ranges.{Range, byte_in, holds}
use Rattle.job_meaning.specs.declared.values.Byte.{Byte}
use Rattle.job_meaning.specs.declared.values.Byte.TheVariants.{Value}
use Rattle.link_needs.specs.Linking.{Linking, layout}
use Rattle.object_faults.specs.declared.class.SectionClass.{SectionClass}
use Rattle.object_faults.specs.declared.class.SectionClass.TheVariants.{Executable, ReadOnly, Tls}
use Rattle.tls_layout.specs.Places.{tls_size}
use Rattle.whole_meaning.specs.Bytes.{block_bytes, class_bytes}
use Rattle.whole_meaning.specs.Loads.{class_range, still_ranges}
use Rattle.memory_image.specs.Still.{AreStill, StillTables, still_byte}
use Rattle.memory_image.specs.Tables.{ClassTable, IsClass, Keeps, byte_at, byte_of_place, bytes_at}

-- ** lists

none_past : (xs : List Byte) (i : ℕ) → length xs ≤ i → None ≡ slice_get xs i
none_past [] i h = refl
none_past (x ∷ xs) zero h = absurd (omega arith)
none_past (x ∷ xs) (suc i) h = none_past xs i (omega arith)

mapped : (xs : List ℕ) (k : ℕ) → option_map Value (slice_get xs k) ≡ slice_get (map Value xs) k
mapped [] k = refl
mapped (x ∷ xs) zero = refl
mapped (x ∷ xs) (suc k) = mapped xs k

guarded : (xs : List Byte) (k : ℕ) → slice_get xs k ≡ (if nat_lt k (length xs) then slice_get xs k else None)
guarded xs k = elim (cases_lt k (length xs)) [
  | inl below ↦ rw (lt-ltb k (length xs) below) refl
  | inr past ↦ rw (le-ltb k (length xs) past) (sym (none_past xs k past))
]

place_byte : (start : ℕ) (xs : List ℕ) (place : ℕ)
    → option_map Value (if nat_le start place then slice_get xs (place - start) else None)
    ≡ (if nat_le start place && nat_lt (place - start) (length (map Value xs))
    then slice_get (map Value xs) (place - start) else None)
place_byte start xs place = by_test (nat_le start place)
  where
    by_test : (t : Bool) → option_map Value (if t then slice_get xs (place - start) else None)
        ≡ (if t && nat_lt (place - start) (length (map Value xs)) then slice_get (map Value xs) (place - start)
        else None)
    by_test true = mapped xs (place - start) ∙ guarded (map Value xs) (place - start)
    by_test false = refl

-- the first of two ranges that holds a place
or_read : (t : Bool) (own other : Option Byte) (a b : Option ℕ) → option_map Value a ≡ (if t then own else None)
    → option_map Value b ≡ other
    → (t ≡ true → IsSome own) → option_map Value (option_or a b) ≡ (if t then own else other)
or_read true own other (Some v) b e f some = e
or_read true own other None b e f some = absurd (empty own e (some refl))
  where
    empty : (own : Option Byte) → None ≡ own → IsSome own → ⊥
    empty None e h = cc
    empty (Some v) e h = cc
or_read false own other (Some v) b e f some = absurd (impossible e)
  where
    impossible : Some (Value v) ≡ None → ⊥
    impossible h = cc
or_read false own other None b e f some = f

-- ** tables

module _ (l : Linking) (bias : ℕ) (keeps : Keeps l bias) where
  class_byte : (class : SectionClass) (c : ClassTable) → IsClass l class c → (place : ℕ)
      → option_map Value (byte_of_place c bias place)
      ≡ (if holds (class_range l bias class) place
      then slice_get (class_range l bias class).bytes (place - (class_range l bias class).start) else None)
  unfolding byte_of_place
  class_byte class c is place =
      ap (λ xs. option_map Value
      (if nat_le (c.start + bias) place then slice_get xs (place - (c.start + bias)) else None))
      (is.bytes_are bias keeps)
      ∙ place_byte (c.start + bias) (class_bytes l bias class) place
      ∙ ap (λ n. if nat_le (n + bias) place
      && nat_lt (place - (n + bias)) (length (map Value (class_bytes l bias class)))
      then slice_get (map Value (class_bytes l bias class)) (place - (n + bias)) else None) is.start_is

  held : (range : Range Byte) (place : ℕ) → holds range place ≡ true
      → IsSome (slice_get range.bytes (place - range.start))
  held range place h =
      let parts = and_parts (nat_le range.start place) (nat_lt (place - range.start) (length range.bytes)) h in
      let below = ltb-true (place - range.start) (length range.bytes) parts.1 in
      rw (slice_get-get_or range.bytes (place - range.start) (Value 0) below) refl

  pub still_is : (s : StillTables) (access : Access) (place : ℕ) → AreStill l s
      → option_map Value (still_byte access s bias place) ≡ byte_in access (still_ranges l bias) place
  unfolding still_byte
  still_is s Run place are = class_byte Executable s.code are.code_is place
  still_is s Read place are =
      or_read (holds (class_range l bias ReadOnly) place)
      (slice_get (class_range l bias ReadOnly).bytes (place - (class_range l bias ReadOnly).start)) _
      (byte_of_place s.constants bias place) (byte_of_place s.initial bias place)
      (class_byte ReadOnly s.constants are.constants_are place) (class_byte (Tls true) s.initial are.initial_is place)
      (held (class_range l bias ReadOnly) place)
  still_is s Write place are = refl

  pub block_is : (c : ClassTable) (size : ℕ) (values block : List ℕ) → IsClass l (Tls true) c
      → size ≡ tls_size (layout l).sections
      → values ≡ bytes_at c bias → block ≡ values ++ replicate (size - length values) 0 → block ≡ block_bytes l bias
  block_is c size values block is e all padded =
      let own : values ≡ class_bytes l bias (Tls true) = all ∙ is.bytes_are bias keeps in
      rw (padded, own, e) refl

-- ** all bytes of a table

pub all_values : (c : ClassTable) (bias n : ℕ) (values : List ℕ) → n ≡ length c.bytes
    → values ≡ map (byte_at c bias) (range_with_len 0 n)
    → values ≡ bytes_at c bias
unfolding bytes_at
all_values c bias n values e all = all ∙ ap (λ k. map (byte_at c bias) (range_with_len 0 k)) e

-- a block is no longer than its initial image and the segment together
pub few_padded : (values block : List ℕ) (size : ℕ) → length values ≤ 2 ^ 25 → size ≤ 2 ^ 20
    → block ≡ values ++ replicate (size - length values) 0 → length block ≤ 2 ^ 26
few_padded values block size few small padded =
    let long = length-append values (replicate (size - length values) 0) in
    omega (arith, few, small, ap length padded, long, length-replicate {A = ℕ} (size - length values) 0)

-- they are no more than the class has
pub few_values : (c : ClassTable) (bias n limit : ℕ) (values : List ℕ) → n ≤ limit
    → values ≡ map (byte_at c bias) (range_with_len 0 n)
    → length values ≤ limit
few_values c bias n limit values small all =
    omega (arith, small, ap length all ∙ length-map-range_with_len (byte_at c bias) 0 n)

pub more_values : (c : ClassTable) (bias n v : ℕ) (values : List ℕ) → values ≡ map (byte_at c bias) (range_with_len 0 n)
    → v ≡ byte_at c bias n
    → values ++ (v ∷ []) ≡ map (byte_at c bias) (range_with_len 0 (n + 1))
more_values c bias n v values all e =
    rw (map-range_with_len_more (byte_at c bias) 0 n n (omega arith), all, e) refl

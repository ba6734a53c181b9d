-- Code that is fetched at once is what its bytes are one by one.
use Rattle.std.proofs.Common.{◌≡◌, ◌∙◌, ◌+◌, ◌-◌, ◌^◌, ◌<◌, ◌≤◌, ◌++◌, ℕ, zero, suc, Bool, true, false, List, [], ◌∷◌}
use Rattle.std.proofs.Common.{length, drop, take, get_or, Option, Some, None, refl, sym, ap, subst, arith, inl, inr}
use Rattle.std.proofs.Common.{cond, add-one, ◌==◌}
use Rattle.std.specs.Prelude.{◌&&◌, is_some, nat_le, option_and_then, slice_get, slice_range}
use Rattle.std.specs.List.{find, flat_map}
use Rattle.std.specs.Option.{option_or, option_map_or}
use Rattle.std.proofs.Math.Seq.{drop-cons}
use Rattle.std.proofs.lemmas.Bool.{cases_Bool, false≢true, le-leb, leb-true, ltb-false, lt-ltb}
use Rattle.std.proofs.lemmas.Option.{none-some, same_Some, slice_get-get_or, slice_get_past}
use Rattle.guest_arithmetic.specs.Plain.{plain_operations}
use Rattle.guest_operands.specs.Access.{code_at, fetch_of, next_place}
use Rattle.guest_operands.specs.declared.space.Access.TheVariants.{Run}
use Rattle.guest_operands.specs.Ranges.{AddressSpace, byte_in}
use Rattle.guest_operands.specs.RangeLaws.{range_accesses}
use Rattle.image_file.specs.declared.part.PartClass.TheVariants.{Executable}
use Rattle.image_file.specs.Spelled.{Part, Spelled}
use Rattle.loaded_modules.specs.declared.instance.Instance.{Instance}
use Rattle.loaded_modules.specs.Images.{JobImages, image_at}
use Rattle.loaded_modules.specs.Loader.{bias, part_bytes}
use Rattle.loaded_modules.specs.LoaderLaws.{bias_of, loaded_part}
use Rattle.thread_blocks.specs.JobLoads.{job_loads, parts_from}
use Rattle.thread_space.specs.Fetching.{Copies, code_number, first_code, meets, part_meets}
use Rattle.thread_space.specs.Kept.{Kept, live_in, memory_of}
use Rattle.thread_space.specs.OfParts.{fixed_ranges}
use Rattle.thread_space.specs.Places.{behind}
use Rattle.thread_space.proofs.PartBytes.{behind_some, bias_here, by_class, of_image, of_no_image, part_here}
use Rattle.thread_space.proofs.ReadKept.{run_is}
use Rattle.guest_operands.proofs.Sought.{byte_in-append, is_byte}
use Rattle.image_names.specs.Functions.{is_code}

-- ** one part

-- a place that is none of a part's bytes
misses : (start place k : ℕ) (bytes : List ℕ) → k < 15 → meets start (length bytes) place ≡ false
    → option_and_then (slice_get bytes) (behind start (place + k)) ≡ None
misses start place k bytes low none = elim (cases_Bool (nat_le start (place + k))) [
  | inl t ↦
      let from : start ≤ place + k = leb-true start (place + k) t in
      let below : start < place + 15 = omega (arith, from, low) in
      let past : start + length bytes ≤ place =
      ltb-false place (start + length bytes) (sym (rw (lt-ltb start (place + 15) below) refl) ∙ none) in
      rw t (slice_get_past bytes (place + k - start) (omega (arith, past)))
  | inr f ↦ rw f refl
]

module _ (m : JobImages) (image : Spelled) (x : Instance) (place k : ℕ) (low : k < 15) where
  abbrev rest_of : ℕ → List Part → Option ℕ
  rest_of i rest = byte_in Run (fixed_ranges (parts_from m image x i rest)) (place + k)

  -- a part that has none of the places is passed over
  passed : (i : ℕ) (part : Part) (rest : List Part) → part_meets m image x place (Some part) ≡ false
      → rest_of i (part ∷ rest) ≡ rest_of (suc i) rest
  passed i part rest none =
      by_class Run part.class (option_map_or (λ (own : ℕ). own == i) image.got false)
      (part.address + bias image.kind x.number) (place + k) (part_bytes m image x part)
      (parts_from m image x (suc i) rest)
      ∙ ap (λ o. option_or o (rest_of (suc i) rest)) (by_code (is_code part.class) refl)
    where
      by_code : (b : Bool) → is_code part.class ≡ b
          → cond (is_code part.class)
          (option_and_then (slice_get (part_bytes m image x part))
          (behind (part.address + bias image.kind x.number) (place + k))) None ≡ None
      by_code true e =
          rw e (misses (part.address + bias image.kind x.number) place k (part_bytes m image x part) low
          (sym (rw e refl) ∙ none))
      by_code false e = rw e refl

  no_code : (rest : List Part) (i : ℕ) → first_code m image x place i rest ≡ None → rest_of i rest ≡ None
  no_code [] i none = refl
  no_code (part ∷ rest) i none = elim (cases_Bool (part_meets m image x place (Some part))) [
    | inl t ↦ absurd (none-some i (sym (sym (rw t refl) ∙ none)))
    | inr f ↦ passed i part rest f ∙ no_code rest (suc i) (sym (rw f refl) ∙ none)
  ]

  module _ (n at : ℕ) (found_part : Part) (is : slice_get image.parts n ≡ Some found_part)
      (begins : behind (found_part.address + bias image.kind x.number) place ≡ Some at)
      (room : at + 15 ≤ length (part_bytes m image x found_part)) where
    here : (i : ℕ) (rest : List Part) → is_code found_part.class ≡ true
        → rest_of i (found_part ∷ rest) ≡ slice_get (part_bytes m image x found_part) (at + k)
    here i rest code =
        let bytes = part_bytes m image x found_part in
        let start = found_part.address + bias image.kind x.number in
        let told = behind_some start place at begins in
        let from : start ≤ place = leb-true start place told.0 in
        let later : behind start (place + k) ≡ Some (at + k) =
        (let offset : place + k - start ≡ at + k = omega (arith, told.1, from) in
        rw (le-leb start (place + k) (omega (arith, from)), offset) refl)
        in
        by_class Run found_part.class (option_map_or (λ (own : ℕ). own == i) image.got false) start (place + k) bytes
        (parts_from m image x (suc i) rest)
        ∙ rw (code, later) (sym (is_byte bytes (at + k) (rest_of (suc i) rest) (omega (arith, room, low))))

    code_from : (rest : List Part) (i : ℕ) → ((j : ℕ) → slice_get image.parts (i + j) ≡ slice_get rest j)
        → first_code m image x place i rest ≡ Some n
        → rest_of i rest ≡ slice_get (part_bytes m image x found_part) (at + k)
    code_from [] i rests found = absurd (none-some n found)
    code_from (part ∷ rest) i rests found = elim (cases_Bool (part_meets m image x place (Some part))) [
      | inl t ↦
          let number : i ≡ n = same_Some i n (sym (rw t refl) ∙ found) in
          let first : slice_get image.parts i ≡ Some part = (let e : i + 0 ≡ i = omega arith in rw e at (rests 0)) in
          let same : part ≡ found_part =
          same_Some part found_part (sym first ∙ ap (slice_get image.parts) number ∙ is) in
          let code : is_code part.class ≡ true = first_true (is_code part.class) _ t in
          subst (λ (p : Part). rest_of i (p ∷ rest) ≡ slice_get (part_bytes m image x found_part) (at + k)) (sym same)
          (here i rest (ap (λ (p : Part). is_code p.class) (sym same) ∙ code))
      | inr f ↦
          passed i part rest f
          ∙ code_from rest (suc i) (λ j. (let e : i + suc j ≡ suc i + j = omega arith in rw e at (rests (suc j))))
          (sym (rw f refl) ∙ found)
    ]
      where
        first_true : (a b : Bool) → (a && b) ≡ true → a ≡ true
        first_true true b e = refl
        first_true false b e = absurd (false≢true e)

-- ** one instance of all

module _ (m : JobImages) (place k : ℕ) (low : k < 15) where
  of_none : (x : Instance) → code_number m place x ≡ None → byte_in Run ((job_loads m).fixed x) (place + k) ≡ None
  unfolding code_number
  of_none x none = by_image (image_at m x.image) refl
    where
      by_image : (o : Option Spelled) → image_at m x.image ≡ o → byte_in Run ((job_loads m).fixed x) (place + k) ≡ None
      by_image None e = ap (λ ranges. byte_in Run ranges (place + k)) (sym (of_no_image m x e))
      by_image (Some image) e =
          ap (λ ranges. byte_in Run ranges (place + k)) (sym (of_image m x image e))
          ∙ no_code m image x place k low image.parts 0 (rw e at none)

  module _ (image : Spelled) (x : Instance) (n byte : ℕ)
      (here : byte_in Run ((job_loads m).fixed x) (place + k) ≡ Some byte) where
    pub in_live : (xs : List Instance) → find (λ y. is_some (code_number m place y)) xs ≡ Some x
        → byte_in Run (flat_map (job_loads m).fixed xs) (place + k) ≡ Some byte
    in_live [] found = absurd (none-some x found)
    in_live (y ∷ xs) found = by_code (code_number m place y) refl (in_live xs)
      where
        by_code : (o : Option ℕ) → code_number m place y ≡ o
            → (find (λ y. is_some (code_number m place y)) xs ≡ Some x
            → byte_in Run (flat_map (job_loads m).fixed xs) (place + k) ≡ Some byte)
            → byte_in Run ((job_loads m).fixed y ++ flat_map (job_loads m).fixed xs) (place + k) ≡ Some byte
        by_code None e there =
            byte_in-append Run (place + k) ((job_loads m).fixed y) (flat_map (job_loads m).fixed xs)
            ∙ ap (λ o. option_or o (byte_in Run (flat_map (job_loads m).fixed xs) (place + k))) (of_none y e)
            ∙ there (sym (rw e refl) ∙ found)
        by_code (Some i) e there =
            let same : y ≡ x = same_Some y x (sym (rw e refl) ∙ found) in
            byte_in-append Run (place + k) ((job_loads m).fixed y) (flat_map (job_loads m).fixed xs)
            ∙ ap (λ o. option_or o (byte_in Run (flat_map (job_loads m).fixed xs) (place + k)))
            (ap (λ z. byte_in Run ((job_loads m).fixed z) (place + k)) same ∙ here)

-- ** all of the bytes

module _ (memory : AddressSpace ℕ) (bytes : List ℕ) where
  code_is : (n place at : ℕ) → ((k : ℕ) → k < n → byte_in Run memory.ranges (place + k) ≡ slice_get bytes (at + k))
      → at + n ≤ length bytes → place + n < 2 ^ 64
      → code_at (range_accesses plain_operations) memory place n ≡ take n (drop at bytes)
  unfolding range_accesses plain_operations
  code_is zero place at each room low = refl
  code_is (suc n) place at each room low =
      let first : byte_in Run memory.ranges place ≡ Some (get_or bytes at 0) =
      (let e : place + 0 ≡ place = omega arith in let f : at + 0 ≡ at = omega arith in
      rw (e, f) at (each 0 (omega arith)))
      ∙ slice_get-get_or bytes at 0 (omega (arith, room))
      in
      let within : at < length bytes = omega (arith, room) in
      let next : next_place place ≡ place + 1 = omega (arith, low) in
      rw (first, next, drop-cons bytes at 0)
      (ap (λ rest. get_or bytes at 0 ∷ rest)
      (code_is n (place + 1) (at + 1)
      (λ k less. (let e : place + 1 + k ≡ place + suc k = omega arith in
      let f : at + 1 + k ≡ at + suc k = omega arith in rw (e, f) (each (suc k) (omega (arith, less)))))
      (omega (arith, room)) (omega (arith, low))
      ∙ ap (λ i. take n (drop i bytes)) (add-one at)))

-- the code that was copied is what is fetched
pub fetched : (k : Kept) (place n : ℕ) (x : Instance) (image : Spelled) (into : List ℕ) → place + 15 < 2 ^ 64
    → find (λ y. is_some (code_number k.vector.images place y)) (live_in k.vector.images k.vector.past) ≡ Some x
    → image_at k.vector.images x.image ≡ Some image → first_code k.vector.images image x place 0 image.parts ≡ Some n
    → Copies k.vector.images image x n place into
    → into ≡ fetch_of (range_accesses plain_operations) (memory_of k) place
unfolding fetch_of
fetched k place n x image into low found there first copies =
    let m = k.vector.images in
    let bytes = part_bytes m image x copies.part in
    let begins : behind (copies.part.address + bias image.kind x.number) place ≡ Some copies.at =
    rw (bias_here m image x n there) at copies.begins
    in
    let each : (j : ℕ) → j < 15
    → byte_in Run (memory_of k).ranges (place + j) ≡ slice_get bytes (copies.at + j) = λ j less.
    (let one : byte_in Run ((job_loads m).fixed x) (place + j) ≡ slice_get bytes (copies.at + j) =
    ap (λ ranges. byte_in Run ranges (place + j)) (sym (of_image m x image there))
    ∙ code_from m image x place j less n copies.at copies.part copies.is begins copies.room image.parts 0
    (λ i. (let e : 0 + i ≡ i = omega arith in rw e refl)) first
    in
    let some : slice_get bytes (copies.at + j) ≡ Some (get_or bytes (copies.at + j) 0) =
    slice_get-get_or bytes (copies.at + j) 0 (omega (arith, less, copies.room))
    in
    run_is k (place + j)
    ∙ in_live m place j less image x n (get_or bytes (copies.at + j) 0) (one ∙ some) (live_in m k.vector.past) found
    ∙ sym some)
    in
    copies.copied
    ∙ (let e : copies.at + 15 - copies.at ≡ 15 = omega arith in
    rw e (sym (code_is (memory_of k) bytes 15 place copies.at each copies.room low)))

-- ** what the code asks

module _ (m : JobImages) (image : Spelled) (x : Instance) (there : image_at m x.image ≡ Some image) where
  pub meets_read : (i place : ℕ) (part : Part) → slice_get image.parts i ≡ Some part → is_code part.class ≡ true
      → meets (part.address + bias_of m x) (length (loaded_part m x i)) place
      ≡ part_meets m image x place (slice_get image.parts i)
  meets_read i place part is code = rw (bias_here m image x i there, part_here m image x i there part is, is, code) refl

  first_next : (place i : ℕ) → i < length image.parts
      → first_code m image x place i (drop i image.parts)
      ≡ cond (part_meets m image x place (slice_get image.parts i)) (Some i)
      (first_code m image x place (i + 1) (drop (i + 1) image.parts))
  first_next place i within =
      rw (
        add-one,
        slice_get-get_or image.parts i (record { class = Executable; address = 0; bytes = [] }) within,
        drop-cons image.parts i (record { class = Executable; address = 0; bytes = [] }),
      ) refl

  pub first_hit : (place i : ℕ) (whole : Option ℕ) → whole ≡ first_code m image x place i (drop i image.parts)
      → i < length image.parts
      → part_meets m image x place (slice_get image.parts i) ≡ true → Some i ≡ whole
  first_hit place i whole from within here = sym (from ∙ first_next place i within ∙ rw here refl)

  pub first_miss : (place i : ℕ) (whole : Option ℕ) → whole ≡ first_code m image x place i (drop i image.parts)
      → i < length image.parts
      → part_meets m image x place (slice_get image.parts i) ≡ false
      → whole ≡ first_code m image x place (i + 1) (drop (i + 1) image.parts)
  first_miss place i whole from within here = from ∙ first_next place i within ∙ rw here refl

  pub number_of_image : (place : ℕ) → first_code m image x place 0 image.parts ≡ code_number m place x
  unfolding code_number
  number_of_image place = sym (rw there refl)

  pub copies_part : (i place at : ℕ) (part : Part) (bytes : List ℕ) → slice_get image.parts i ≡ Some part
      → behind (part.address + bias_of m x) place ≡ Some at → at + 15 ≤ length (loaded_part m x i)
      → bytes ≡ slice_range (loaded_part m x i) at (at + 15) → Copies m image x i place bytes
  copies_part i place at part bytes is begins room copied =
      let same = part_here m image x i there part is in
      record {
        part = part;
        at = at;
        is = is;
        begins = begins;
        room = subst (λ (bs : List ℕ). at + 15 ≤ length bs) same room;
        copied = copied ∙ ap (λ (bs : List ℕ). slice_range bs at (at + 15)) same;
      }

pub number_of_none : (m : JobImages) (x : Instance) (place : ℕ) → image_at m x.image ≡ None
    → None ≡ code_number m place x
unfolding code_number
number_of_none m x place none = sym (rw none refl)

-- What a step that is done has accessed, and how large what it loads is.
use Rattle.std.proofs.Common.{◌≡◌, ℕ, zero, suc, ◌+◌, ◌-◌, ◌*◌, ◌%◌, ◌^◌, ◌<◌, ◌≤◌, ℤ, pos, negsuc, Bool, true, false}
use Rattle.std.proofs.Common.{List, [], ◌∷◌, Option, Some, None, Result, Ok, Err, inr, refl, ap, sym, subst, ⊎_elim}
use Rattle.std.proofs.Common.{arith, ◌∙◌}
use Rattle.std.specs.Prelude.{if◌then◌else◌, ok_or, slice_get, All}
use Rattle.std.proofs.lemmas.Bool.{cases_lt}
use Rattle.std.proofs.lemmas.Int.{ints}
use Rattle.std.proofs.lemmas.List.Elements.{All-contains}
use Rattle.std.proofs.lemmas.Option.{get_or_from_slice_get, slice_get_within}
use Rattle.amd64_subset.specs.declared.instr.Width.{Width}
use Rattle.amd64_subset.specs.declared.instr.Width.TheVariants.{Long, Quad}
use Rattle.guest_arithmetic.specs.Plain.{plain_operations}
use Rattle.guest_arithmetic.specs.Values.{number_from}
use Rattle.guest_operands.specs.declared.stop.Stop.{Stop}
use Rattle.guest_operands.specs.Access.{Accesses, Refusal, Refused, Shut, both_reached, bytes_at, load_of, next_place}
use Rattle.guest_operands.specs.Access.{reached}
use Rattle.guest_operands.specs.declared.space.Access.TheVariants.{Read}
use Rattle.guest_operands.specs.declared.space.Access.{Access}
use Rattle.guest_operands.specs.Ranges.{Range, byte_in, grants}
use Rattle.guest_operands.specs.RangeLaws.{range_accesses}
use Rattle.guest_operands.specs.Use.{◌>>=◌, there}
use Rattle.instruction_laws.specs.Laws.{HasBytes, IsByte}
use Rattle.instruction_laws.specs.Steps.{Numbers, bytes}
use Rattle.instruction_laws.specs.Words.{words, IsSigned}
use Rattle.instruction_laws.proofs.Words.{high_half, low_half}

-- ** numbers

-- the same signed integer in 64 bits
pub record Extended (n : ℕ) : Type 0 where
  pub value : ℤ
  pub result : ℕ
  pub short : IsSigned Long n value
  pub long : IsSigned Quad result value

pub extended : (n : ℕ) → n < words Long → Extended n
extended n below = ⊎_elim
    (λ (low : n < 2147483648). record {
      value = pos n;
      result = n;
      short = low_half Long n low;
      long = low_half Quad n (omega (arith, low));
    })
    (λ (high : 2147483648 ≤ n). record {
      value = negsuc (4294967295 - n);
      result = n + 18446744069414584320;
      short = high_half Long n below high;
      long = record {
        below = omega (arith, below);
        same = inr (omega (arith, ints, below));
        least = omega (arith, ints, below, high);
        greatest = omega (arith, ints);
      };
    })
    (cases_lt n 2147483648)

-- ** one thing after another

pub ok_first : {A B : Type 0} (r : Result A Stop) (f : A → Result B Stop) (y : B) → (r >>= f) ≡ Ok y
    → (x : A) × (r ≡ Ok x) × (f x ≡ Ok y)
ok_first (Ok x) f y is = (x, refl, is)
ok_first (Err stop) f y is = absurd cc

pub then_is : {A B : Type 0} (r : Result A Stop) (f : A → Result B Stop) (x : A) (y : B) → r ≡ Ok x
    → (r >>= f) ≡ Ok y → f x ≡ Ok y
then_is r f x y is at = sym (ap (λ r. r >>= f) is) ∙ at

pub there_ok : {A : Type 0} (here : ℕ) (r : Result A Refusal) (x : A) → there here r ≡ Ok x → r ≡ Ok x
there_ok here (Ok y) x is = let same : y ≡ x = cc in ap Ok same
there_ok here (Err Refused) x is = absurd cc
there_ok here (Err Shut) x is = absurd cc

-- ** loads

reached_ok : {A C : Type 0} (f : A → C) (r : Result A Refusal) (y : C) → reached f r ≡ Ok y
    → (x : A) × (r ≡ Ok x) × (f x ≡ y)
reached_ok f (Ok x) y is = (x, refl, cc)
reached_ok f (Err why) y is = absurd cc

both_ok : (byte : Result ℕ Refusal) (rest : Result (List ℕ) Refusal) (bs : List ℕ) → both_reached ◌∷◌ byte rest ≡ Ok bs
    → (b : ℕ) × (cs : List ℕ) × (byte ≡ Ok b) × (rest ≡ Ok cs) × (b ∷ cs ≡ bs)
both_ok (Ok b) (Ok cs) bs is = (b, cs, refl, refl, cc)
both_ok (Ok b) (Err why) bs is = absurd cc
both_ok (Err Shut) rest bs is = absurd cc
both_ok (Err Refused) (Ok cs) bs is = absurd cc
both_ok (Err Refused) (Err why) bs is = absurd cc

some_ok : (o : Option ℕ) (b : ℕ) → ok_or o Refused ≡ Ok b → o ≡ Some b
some_ok (Some x) b is = let same : x ≡ b = cc in ap Some same
some_ok None b is = absurd cc

small_at : (bs : List ℕ) (i b : ℕ) → All IsByte bs → slice_get bs i ≡ Some b → b < 256
small_at bs i b small is =
    All-contains IsByte bs b small (i, slice_get_within bs i b is, get_or_from_slice_get bs i b b is)

either_small : (t : Bool) (x y : Option ℕ) (b : ℕ) → (x ≡ Some b → b < 256) → (y ≡ Some b → b < 256)
    → (if t then x else y) ≡ Some b → b < 256
either_small true x y b p q is = p is
either_small false x y b p q is = q is

byte_in_small : (access : Access) (ranges : List (Range ℕ)) (place b : ℕ)
    → All (λ (range : Range ℕ). All IsByte range.bytes) ranges → byte_in access ranges place ≡ Some b → b < 256
byte_in_small access [] place b small is = absurd cc
byte_in_small access (range ∷ ranges) place b small is =
    either_small (grants access range place) (slice_get range.bytes (place - range.start))
    (byte_in access ranges place) b (small_at range.bytes (place - range.start) b (small 0 range (omega arith)))
    (byte_in_small access ranges place b (λ k d inside. small (suc k) d (omega (arith, inside)))) is

-- how many numbers so many bytes hold
abbrev room : ℕ → ℕ
room zero = 1
room (suc size) = 256 * room size

module _ (memory : Numbers) (small : HasBytes memory) where
  abbrev acc : Accesses Numbers ℕ
  acc = range_accesses plain_operations

  read_small : (place b : ℕ) → acc.byte memory place ≡ Ok b → b < 256
  unfolding range_accesses
  read_small place b is =
      byte_in_small Read memory.ranges place b small (some_ok (byte_in Read memory.ranges place) b is)

  bytes_small : (size place : ℕ) (bs : List ℕ) → bytes_at acc memory place size ≡ Ok bs → number_from bs < room size
  bytes_small zero place bs is =
      let same : [] ≡ bs = cc in subst (λ (bs : List ℕ). number_from bs < 1) same (omega arith)
  bytes_small (suc size) place bs is =
      let parts = both_ok (acc.byte memory place) (bytes_at acc memory (next_place place) size) bs is in
      let first = read_small place parts.0 parts.2 in
      let rest = bytes_small size (next_place place) parts.1 parts.3 in
      subst (λ (bs : List ℕ). number_from bs < 256 * room size) parts.4 (omega (arith, first, rest))

  load_small : (size place n : ℕ) → load_of plain_operations acc memory place size ≡ Ok n
      → (n < room size) × (n < 2 ^ 64)
  unfolding load_of plain_operations
  load_small size place n is =
      let loaded = reached_ok (λ bs. number_from bs % 2 ^ 64) (bytes_at acc memory place size) n is in
      let below = bytes_small size place loaded.0 loaded.1 in
      (omega (arith, below, loaded.2), omega (arith, loaded.2))

  pub loads_word : (size place n : ℕ) → load_of plain_operations acc memory place size ≡ Ok n → n < words Quad
  loads_word size place n is = (load_small size place n is).1

  pub loads_long : (place n : ℕ) → load_of plain_operations acc memory place 4 ≡ Ok n → n < words Long
  loads_long place n is = (load_small 4 place n is).0

  pub loads_byte : (place n : ℕ) → load_of plain_operations acc memory place 1 ≡ Ok n → n < words Long
  loads_byte place n is = let small = (load_small 1 place n is).0 in omega (arith, small)

  pub loads_below : (width : Width) (place n : ℕ) → load_of plain_operations acc memory place (bytes width) ≡ Ok n
      → n < words width
  loads_below Long place n is = loads_long place n is
  loads_below Quad place n is = loads_word 8 place n is

-- Numbers, registers and bits in bytes: what is packed into a byte is found in it again.
use Rattle.std.proofs.Common.{◌≡◌, ◌≢◌, ℕ, zero, suc, ◌+◌, ◌/◌, ◌%◌, ◌^◌, ◌<◌, ◌≤◌, Bool, true, false, cond, eqb, ltb}
use Rattle.std.proofs.Common.{leb, take, refl, sym, arith, inl, inr}
use Rattle.std.specs.Prelude.{not, ◌&&◌, ◌||◌, unwrap_or}
use Rattle.std.specs.Option.{option_map}
use Rattle.std.specs.Int.{w32, w64, from_le_bytes, to_le_bytes}
use Rattle.std.proofs.lemmas.Nat.{from_le_bytes-to_le_bytes_8}
use Rattle.std.proofs.lemmas.Bool.{ltb-true, leb-true}
use Rattle.amd64_words.specs.declared.register.Register.{Register}
use Rattle.amd64_words.specs.declared.register.Register.TheVariants.{Rax, Rcx, Rdx, Rbx, Rsp, Rbp, Rsi, Rdi, R8, R9}
use Rattle.amd64_words.specs.declared.register.Register.TheVariants.{R10, R11, R12, R13, R14, R15}
use Rattle.amd64_subset.specs.declared.operand.Scale.{Scale}
use Rattle.amd64_subset.specs.declared.operand.Scale.TheVariants as scale
use Rattle.amd64_subset.specs.declared.prefix.Rex.{Rex}
use Rattle.amd64_words.specs.declared.size.Size.TheVariants as size
use Rattle.amd64_subset.specs.Number.{signed_of}
use Rattle.amd64_subset.specs.Register.{register_of, number_of, extended}
use Rattle.amd64_subset.specs.Prefix.{rex_of, no_bits}
use Rattle.amd64_subset.specs.Selectors.{scale_of}
use Rattle.amd64_encoder.specs.Form.{fits_byte, low_bits}
use Rattle.amd64_encoder.specs.Writing.{packed, is_high, scale_number, rex_byte, when, number_bytes}
use Rattle.amd64_encoder.specs.Canonical.{IsSignedLong}

-- ---- bytes of two, three and three bits

pub high_digit : (h m l : ℕ) → m < 8 → l < 8 → packed h m l / 64 ≡ h
high_digit h m l m-low l-low = omega arith

pub middle_digit : (h m l : ℕ) → m < 8 → l < 8 → (packed h m l / 8) % 8 ≡ m
middle_digit h m l m-low l-low = omega arith

pub low_digit : (h m l : ℕ) → m < 8 → l < 8 → packed h m l % 8 ≡ l
low_digit h m l m-low l-low = omega arith

-- ---- registers

pub extended_again : (r : Register) → extended (low_bits r) (is_high r) ≡ r
unfolding register_of number_of
extended_again Rax = refl
extended_again Rcx = refl
extended_again Rdx = refl
extended_again Rbx = refl
extended_again Rsp = refl
extended_again Rbp = refl
extended_again Rsi = refl
extended_again Rdi = refl
extended_again R8 = refl
extended_again R9 = refl
extended_again R10 = refl
extended_again R11 = refl
extended_again R12 = refl
extended_again R13 = refl
extended_again R14 = refl
extended_again R15 = refl

-- an index but %rsp is none of those that stand for no index
pub index_stands : (r : Register) → r ≢ Rsp → (eqb (low_bits r) 4 && not (is_high r)) ≡ false
unfolding number_of
index_stands Rax h = refl
index_stands Rcx h = refl
index_stands Rdx h = refl
index_stands Rbx h = refl
index_stands Rsp h = absurd (h refl)
index_stands Rbp h = refl
index_stands Rsi h = refl
index_stands Rdi h = refl
index_stands R8 h = refl
index_stands R9 h = refl
index_stands R10 h = refl
index_stands R11 h = refl
index_stands R12 h = refl
index_stands R13 h = refl
index_stands R14 h = refl
index_stands R15 h = refl

pub number_back : (n : ℕ) → n < 16 → number_of (register_of n) ≡ n
unfolding register_of number_of
number_back zero h = refl
number_back (suc zero) h = refl
number_back (suc (suc zero)) h = refl
number_back (suc (suc (suc zero))) h = refl
number_back (suc (suc (suc (suc zero)))) h = refl
number_back (suc (suc (suc (suc (suc zero))))) h = refl
number_back (suc (suc (suc (suc (suc (suc zero)))))) h = refl
number_back (suc (suc (suc (suc (suc (suc (suc zero))))))) h = refl
number_back (suc (suc (suc (suc (suc (suc (suc (suc zero)))))))) h = refl
number_back (suc (suc (suc (suc (suc (suc (suc (suc (suc zero))))))))) h = refl
number_back (suc (suc (suc (suc (suc (suc (suc (suc (suc (suc zero)))))))))) h = refl
number_back (suc (suc (suc (suc (suc (suc (suc (suc (suc (suc (suc zero))))))))))) h = refl
number_back (suc (suc (suc (suc (suc (suc (suc (suc (suc (suc (suc (suc zero)))))))))))) h = refl
number_back (suc (suc (suc (suc (suc (suc (suc (suc (suc (suc (suc (suc (suc zero))))))))))))) h = refl
number_back (suc (suc (suc (suc (suc (suc (suc (suc (suc (suc (suc (suc (suc (suc zero)))))))))))))) h = refl
number_back (suc (suc (suc (suc (suc (suc (suc (suc (suc (suc (suc (suc (suc (suc (suc zero))))))))))))))) h = refl
number_back (suc (suc (suc (suc (suc (suc (suc (suc (suc (suc (suc (suc (suc (suc (suc (suc n)))))))))))))))) h =
    absurd (omega arith)

pub extended-number : (low : ℕ) (high : Bool) → low < 8 → number_of (extended low high) ≡ low + cond high 8 0
extended-number low true h = number_back (low + 8) (omega arith)
extended-number low false h = number_back (low + 0) (omega arith)

pub scale_again : (s : Scale) → scale_of (scale_number s) ≡ s
scale_again scale.One = refl
scale_again scale.Two = refl
scale_again scale.Four = refl
scale_again scale.Eight = refl

-- ---- REX

abbrev pub bits : Bool → Bool → Bool → Bool → Rex
bits w r x b = record { wide = w; register = r; index = x; base = b }

pub rex_back : (w r x b : Bool) → rex_of (rex_byte (bits w r x b)) ≡ bits w r x b
rex_back true true true true = refl
rex_back true true true false = refl
rex_back true true false true = refl
rex_back true true false false = refl
rex_back true false true true = refl
rex_back true false true false = refl
rex_back true false false true = refl
rex_back true false false false = refl
rex_back false true true true = refl
rex_back false true true false = refl
rex_back false true false true = refl
rex_back false true false false = refl
rex_back false false true true = refl
rex_back false false true false = refl
rex_back false false false true = refl
rex_back false false false false = refl

pub rex_is_rex : (w r x b : Bool) → rex_byte (bits w r x b) / 16 ≡ 4
rex_is_rex true true true true = refl
rex_is_rex true true true false = refl
rex_is_rex true true false true = refl
rex_is_rex true true false false = refl
rex_is_rex true false true true = refl
rex_is_rex true false true false = refl
rex_is_rex true false false true = refl
rex_is_rex true false false false = refl
rex_is_rex false true true true = refl
rex_is_rex false true true false = refl
rex_is_rex false true false true = refl
rex_is_rex false true false false = refl
rex_is_rex false false true true = refl
rex_is_rex false false true false = refl
rex_is_rex false false false true = refl
rex_is_rex false false false false = refl

abbrev pub is_needed : Bool → Bool → Bool → Bool → Bool → Bool
is_needed low w r x b = (((low || w) || r) || x) || b

-- where no REX stands, no bit is needed
pub needed_bits : (low w r x b : Bool)
    → unwrap_or (option_map rex_of (when (is_needed low w r x b) (rex_byte (bits w r x b)))) no_bits ≡ bits w r x b
needed_bits true w r x b = rex_back w r x b
needed_bits false true r x b = rex_back true r x b
needed_bits false false true x b = rex_back false true x b
needed_bits false false false true b = rex_back false false true b
needed_bits false false false false true = refl
needed_bits false false false false false = refl

-- ---- numbers

pub none_again : (n : ℕ) → n ≡ 0 → signed_of size.Zero (number_bytes size.Zero n) ≡ n
unfolding signed_of
none_again n h = sym h

byte_again_below : (n : ℕ) → n < 0x80 → signed_of size.One (number_bytes size.One n) ≡ n
unfolding signed_of number_bytes
byte_again_below n h =
    let m : n % 256 ≡ n = omega arith in
    let t : ltb n 0x80 ≡ true = grind arith in
    rw (m, t) refl

byte_again_above : (n : ℕ) → 0xffff_ffff_ffff_ff80 ≤ n → n < 2 ^ 64 → signed_of size.One (number_bytes size.One n) ≡ n
unfolding signed_of number_bytes
byte_again_above n h k =
    let m : n % 256 + 0xffff_ffff_ffff_ff00 ≡ n = omega arith in
    let t : ltb (n % 256) 0x80 ≡ false = grind arith in
    rw (t) m

pub byte_again : (n : ℕ) → fits_byte n ≡ true → n < 2 ^ 64 → signed_of size.One (number_bytes size.One n) ≡ n
byte_again n h k = go (ltb n 0x80) refl h
  where
    go : (b : Bool) → ltb n 0x80 ≡ b → (b || leb 0xffff_ffff_ffff_ff80 n) ≡ true
        → signed_of size.One (number_bytes size.One n) ≡ n
    go true e f = byte_again_below n (ltb-true _ _ e)
    go false e f = byte_again_above n (leb-true _ _ f) k

four_bytes : (n : ℕ) → from_le_bytes w32 (take 4 (to_le_bytes w64 n)) ≡ n % 2 ^ 32
four_bytes n = omega arith

pub long_again : (n : ℕ) → IsSignedLong n → signed_of size.Four (number_bytes size.Four n) ≡ n
unfolding signed_of number_bytes
long_again n (inl h) =
    let m : n % 2 ^ 32 ≡ n = omega arith in
    let t : ltb n 0x8000_0000 ≡ true = grind arith in
    rw (four_bytes n, m, t) refl
long_again n (inr h) =
    let m : n % 2 ^ 32 + 0xffff_ffff_0000_0000 ≡ n = omega arith in
    let t : ltb (n % 2 ^ 32) 0x8000_0000 ≡ false = grind arith in
    rw (four_bytes n, t) m

pub whole_again : (n : ℕ) → n < 2 ^ 64 → signed_of size.Eight (number_bytes size.Eight n) ≡ n
unfolding signed_of number_bytes
whole_again n h = from_le_bytes-to_le_bytes_8 n h

pub long-lt : (n : ℕ) → IsSignedLong n → n < 2 ^ 64
long-lt n (inl h) = omega arith
long-lt n (inr h) = h.1

-- Numbers of eight bytes, and sums modulo 2^64.
use Rattle.std.proofs.Common.{◌≡◌, ◌<◌, ◌+◌, ◌-◌, ◌*◌, ◌^◌, ◌%◌, ◌/◌, ◌∙◌, ℕ, ℤ, pos, negsuc, zero, suc, List, [], ◌∷◌}
use Rattle.std.proofs.Common.{refl, sym, ap, arith, append-nil}
use Rattle.std.specs.Prelude.{◌+ℤ◌, ◌-ℤ◌, slice_index, slice_index_or}
use Rattle.std.specs.Int.{int_rem_euclid}
use Rattle.std.proofs.lemmas.Int.{int_rem_euclid_is, ints}
use Rattle.std.proofs.Math.Nat.{add-mul-mod_self_left, mod-add-div}
use Rattle.byteorder.specs.Endian.{little_from}
use Rattle.elf_records.specs.Fields.{bytes_of, number_at}
use Rattle.elf_records.specs.Laws.{number_again}
use Rattle.tls_relocs.specs.Values.{modulo}

-- ** numbers

-- equal bytes are equal numbers
little_same : (n i j : ℕ) (xs ys : List ℕ)
    → ((m a b : ℕ) → m < n → a ≡ i + m → b ≡ j + m → slice_index xs a ≡ slice_index ys b)
    → little_from i n xs ≡ little_from j n ys
little_same zero i j xs ys same = refl
little_same (suc n) i j xs ys same =
    let first : slice_index xs i ≡ slice_index ys j = same 0 i j (omega arith) (omega arith) (omega arith) in
    let rest = little_same n (suc i) (suc j) xs ys
    (λ m a b below at to. same (suc m) a b (omega arith) (omega arith) (omega arith)) in
    cc

-- eight bytes that are those of a number
pub number_is : (bytes : List ℕ) (at w : ℕ) → w < 2 ^ 64
    → ((m : ℕ) → m < 8 → slice_index_or bytes (at + m) 0 ≡ slice_index_or (bytes_of 8 w) m 0) → number_at 8 at bytes ≡ w
unfolding number_at
number_is bytes at w small same =
    little_same 8 at 0 bytes (bytes_of 8 w) (λ m a b below x y.
    ap (λ k. slice_index bytes k) x ∙ same m below ∙ ap (λ k. slice_index (bytes_of 8 w) k) (omega arith))
    ∙ ap (little_from 0 8) (sym (append-nil (bytes_of 8 w))) ∙ number_again 8 w 0 [] [] refl small

-- eight bytes in a row
pub eight_bytes : (bytes : List ℕ) (at b0 b1 b2 b3 b4 b5 b6 b7 : ℕ) → b0 ≡ slice_index_or bytes at 0
    → b1 ≡ slice_index_or bytes (at + 1) 0
    → b2 ≡ slice_index_or bytes (at + 2) 0 → b3 ≡ slice_index_or bytes (at + 3) 0 → b4 ≡ slice_index_or bytes (at + 4) 0
    → b5 ≡ slice_index_or bytes (at + 5) 0 → b6 ≡ slice_index_or bytes (at + 6) 0 → b7 ≡ slice_index_or bytes (at + 7) 0
    → little_from 0 8 (b0 ∷ b1 ∷ b2 ∷ b3 ∷ b4 ∷ b5 ∷ b6 ∷ b7 ∷ []) ≡ number_at 8 at bytes
unfolding number_at
eight_bytes bytes at b0 b1 b2 b3 b4 b5 b6 b7 e0 e1 e2 e3 e4 e5 e6 e7 =
    let f : ℕ → ℕ = λ k. slice_index bytes k in
    let n1 : f (at + 1) ≡ f (suc at) = ap f (omega arith) in
    let n2 : f (at + 2) ≡ f (suc (suc at)) = ap f (omega arith) in
    let n3 : f (at + 3) ≡ f (suc (suc (suc at))) = ap f (omega arith) in
    let n4 : f (at + 4) ≡ f (suc (suc (suc (suc at)))) = ap f (omega arith) in
    let n5 : f (at + 5) ≡ f (suc (suc (suc (suc (suc at))))) = ap f (omega arith) in
    let n6 : f (at + 6) ≡ f (suc (suc (suc (suc (suc (suc at)))))) = ap f (omega arith) in
    let n7 : f (at + 7) ≡ f (suc (suc (suc (suc (suc (suc (suc at))))))) = ap f (omega arith) in
    rw (e0, e1 ∙ n1, e2 ∙ n2, e3 ∙ n3, e4 ∙ n4, e5 ∙ n5, e6 ∙ n6, e7 ∙ n7) refl

-- ** sums

is_rem : (z : ℤ) → int_rem_euclid z (pos (2 ^ 64)) ≡ pos (modulo (2 ^ 64) z)
is_rem (pos n) = refl
is_rem (negsuc n) = refl

-- a whole number is what is left of one that is a multiple above it
modulo_of : (z : ℤ) (k m : ℕ) → z +ℤ pos (k * 2 ^ 64) ≡ pos m → modulo (2 ^ 64) z ≡ m % 2 ^ 64
modulo_of z k m e =
    let same : pos (modulo (2 ^ 64) z) ≡ pos (m % 2 ^ 64) = sym (is_rem z)
    ∙ int_rem_euclid_is z (pos (2 ^ 64)) (2 ^ 64) k m (omega arith) refl e in
    cc

mod_add : (m b : ℕ) → (m % 2 ^ 64 + b) % 2 ^ 64 ≡ (m + b) % 2 ^ 64
mod_add m b =
    let split : m % 2 ^ 64 + 2 ^ 64 * (m / 2 ^ 64) ≡ m = mod-add-div m (2 ^ 64) in
    let whole : m % 2 ^ 64 + b + 2 ^ 64 * (m / 2 ^ 64) ≡ m + b = omega arith in
    sym (add-mul-mod_self_left (m % 2 ^ 64 + b) (2 ^ 64) (m / 2 ^ 64)) ∙ ap (λ n. n % 2 ^ 64) whole

-- an address that moves, and an addend
pub moved_sum : (x b : ℕ) (a : ℤ) → (modulo (2 ^ 64) (pos x +ℤ a) + b) % 2 ^ 64 ≡ modulo (2 ^ 64) (pos (x + b) +ℤ a)
moved_sum x b (pos n) =
    let same : x + n + b ≡ x + b + n = omega arith in
    mod_add (x + n) b ∙ ap (λ m. m % 2 ^ 64) same
moved_sum x b (negsuc n) =
    let m = x + ((n + 1) * 2 ^ 64 - (n + 1)) in
    let one = modulo_of (pos x +ℤ negsuc n) (n + 1) m (omega (arith, ints)) in
    let two = modulo_of (pos (x + b) +ℤ negsuc n) (n + 1) (m + b) (omega (arith, ints)) in
    ap (λ w. (w + b) % 2 ^ 64) one ∙ mod_add m b ∙ sym two

pub modulo_small : (z : ℤ) → modulo (2 ^ 64) z < 2 ^ 64
modulo_small (pos n) = omega arith
modulo_small (negsuc n) = omega arith

-- both ends of a distance move
pub moved_distance : (x p b : ℕ) (a : ℤ) → (pos (x + b) +ℤ a) -ℤ pos (p + b) ≡ (pos x +ℤ a) -ℤ pos p
moved_distance x p b a = omega (arith, ints)

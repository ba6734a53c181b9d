-- The laws of `Fields`, which crates above cite: numbers and bytes at an offset, in a part of a list, in joined lists
-- and next to what was written; and fields that were written and are read again.
use Rattle.std.proofs.Common.{ℕ, zero, suc, ◌+◌, ◌-◌, ◌^◌, ◌<◌, ◌≤◌, ◌≡◌, List, [], ◌∷◌, ◌++◌, length, take, drop}
use Rattle.std.proofs.Common.{slice_index, slice_range, refl, sym, ap, ◌∙◌, arith, append_assoc, length-append}
use Rattle.std.proofs.Common.{length-drop, zero-add}
use Rattle.std.proofs.lemmas.List.{drop-append-le, drop-drop, drop-take, get_or-drop, length-take-le, take-take}
use Rattle.std.proofs.lemmas.List.{take-append-le, take_rest, drop_at, take_at}
use Rattle.byteorder.specs.Endian.{little_from}
use Rattle.byteorder.specs.Numbers.{length-bytes_low_first, little_from-lt, little_from-take, little_number-reads_back}
use Rattle.elf_records.specs.Fields.{bytes_of, number_at, part_at, spelled, splice}
use Rattle.elf_records.specs.FieldLaws.{FitAll, Reads, width}

-- a number read after the first i bytes is a number i bytes further on
pub number_at-drop : (n at i : ℕ) (xs : List ℕ) → number_at n at (drop i xs) ≡ number_at n (i + at) xs
unfolding number_at
number_at-drop zero at i xs = refl
number_at-drop (suc n) at i xs =
    let byte = get_or-drop i xs at 0 in
    let rest = number_at-drop n (suc at) i xs in
    let next : i + suc at ≡ suc (i + at) = omega arith in
    rw (byte, rest, next) refl

-- a number depends on no byte after its own
pub number_at-take : (n at m : ℕ) (xs : List ℕ) → at + n ≤ m → number_at n at (take m xs) ≡ number_at n at xs
unfolding number_at
number_at-take n at m xs within = little_from-take at n m xs within

-- a number in the part from i to j is the number i bytes further on in the whole
pub number_at-part : (n at i j : ℕ) (xs : List ℕ) → at + n ≤ j - i
    → number_at n at (slice_range xs i j) ≡ number_at n (i + at) xs
number_at-part n at i j xs within = number_at-take n at (j - i) (drop i xs) within ∙ number_at-drop n at i xs

-- the same of a field that stands k bytes past an offset
pub number_at-field : (n k at i j : ℕ) (xs : List ℕ) → at + k + n ≤ j - i
    → number_at n (at + k) (slice_range xs i j) ≡ number_at n (i + at + k) xs
number_at-field n k at i j xs within =
    let further : i + (at + k) ≡ i + at + k = omega arith in
    number_at-part n (at + k) i j xs within ∙ ap (λ p. number_at n p xs) further

-- a number inside m bytes depends only on those bytes
pub number_at-own : (n k m at : ℕ) (xs : List ℕ) → k + n ≤ m
    → number_at n k (part_at m at xs) ≡ number_at n (at + k) xs
unfolding part_at
number_at-own n k m at xs within = number_at-take n k m (drop at xs) within ∙ number_at-drop n k at xs

-- bytes after a number change nothing
pub number_at-append : (n at : ℕ) (xs ys : List ℕ) → at + n ≤ length xs
    → number_at n at (xs ++ ys) ≡ number_at n at xs
number_at-append n at xs ys within =
    let inside : length xs ≤ length xs = omega arith in
    sym (number_at-take n at (length xs) (xs ++ ys) within)
    ∙ ap (number_at n at) (take-append-le (length xs) xs ys inside)
    ∙ number_at-take n at (length xs) xs within

-- bytes before a number only move it on
pub number_at-behind : (n at : ℕ) (xs ys : List ℕ) → number_at n (length xs + at) (xs ++ ys) ≡ number_at n at ys
number_at-behind n at xs ys =
    sym (number_at-drop n at (length xs) (xs ++ ys)) ∙ ap (number_at n at) (drop_at xs ys (length xs) refl)

-- a number of n bytes is below 256 ^ n
pub number_at-lt : (n at : ℕ) (xs : List ℕ) → ((k : ℕ) → slice_index xs k < 256) → number_at n at xs < 256 ^ n
unfolding number_at
number_at-lt n at xs bytes = little_from-lt at n xs bytes

-- what `byteorder` reads at the start of `&bytes[at..]`
pub number_at-rest : (n at : ℕ) (xs : List ℕ)
    → little_from 0 n (take (length xs - at) (drop at xs)) ≡ number_at n at xs
unfolding number_at
number_at-rest n at xs =
    let start : at + 0 ≡ at = omega arith in
    ap (little_from 0 n) (take_rest xs at) ∙ number_at-drop n 0 at xs ∙ ap (λ i. number_at n i xs) start

-- bytes after the first i are bytes i further on in the whole
pub part_at-drop : (n at i : ℕ) (xs : List ℕ) → part_at n at (drop i xs) ≡ part_at n (i + at) xs
unfolding part_at
part_at-drop n at i xs = ap (take n) (drop-drop at i xs)

-- bytes inside m bytes are taken only from those
pub part_at-own : (n k m at : ℕ) (xs : List ℕ) → k + n ≤ m
    → part_at n k (part_at m at xs) ≡ part_at n (at + k) xs
unfolding part_at
part_at-own n k m at xs within =
    let split : k + (m - k) ≡ m = omega arith in
    let enough : n ≤ m - k = omega arith in
    ap (λ p. take n (drop k (take p (drop at xs)))) (sym split)
    ∙ ap (take n) (drop-take k (m - k) (drop at xs))
    ∙ take-take n (m - k) (drop k (drop at xs)) enough
    ∙ ap (take n) (drop-drop k at xs)

-- bytes after the part do not matter
pub part_at-take : (n at m : ℕ) (xs : List ℕ) → at + n ≤ m → part_at n at (take m xs) ≡ part_at n at xs
unfolding part_at
part_at-take n at m xs within = part_at-own n at m 0 xs within ∙ ap (λ p. part_at n p xs) (zero-add at)

-- bytes in the part from i to j are the bytes i further on in the whole
pub part_at-part : (n at i j : ℕ) (xs : List ℕ) → at + n ≤ j - i
    → part_at n at (slice_range xs i j) ≡ part_at n (i + at) xs
unfolding part_at
part_at-part n at i j xs within =
    let split : at + (j - i - at) ≡ j - i = omega arith in
    let enough : n ≤ j - i - at = omega arith in
    ap (λ m. take n (drop at (take m (drop i xs)))) (sym split)
    ∙ ap (take n) (drop-take at (j - i - at) (drop i xs))
    ∙ take-take n (j - i - at) (drop at (drop i xs)) enough
    ∙ ap (take n) (drop-drop at i xs)

-- bytes after change nothing
pub part_at-append : (n at : ℕ) (xs ys : List ℕ) → at + n ≤ length xs
    → part_at n at (xs ++ ys) ≡ part_at n at xs
unfolding part_at
part_at-append n at xs ys within =
    let inside : at ≤ length xs = omega arith in
    let enough : n ≤ length (drop at xs) = omega (arith, length-drop at xs) in
    ap (take n) (drop-append-le at xs ys inside) ∙ take-append-le n (drop at xs) ys enough

-- bytes in front only move them on
pub part_at-behind : (n at : ℕ) (xs ys : List ℕ) → part_at n (length xs + at) (xs ++ ys) ≡ part_at n at ys
part_at-behind n at xs ys =
    sym (part_at-drop n at (length xs) (xs ++ ys)) ∙ ap (part_at n at) (drop_at xs ys (length xs) refl)

-- a number takes its n bytes
pub length-bytes_of : (n x : ℕ) → length (bytes_of n x) ≡ n
unfolding bytes_of
length-bytes_of n x = length-bytes_low_first 0 n x

-- a number that was written is read again as itself, whatever stands before and after
pub number_again : (n x at : ℕ) (front back : List ℕ) → length front ≡ at → x < 256 ^ n
    → number_at n at (front ++ (bytes_of n x ++ back)) ≡ x
unfolding number_at bytes_of
number_again n x at front back place fits =
    let start : length front + 0 ≡ at = omega arith in
    rw (← start) (number_at-behind n 0 front (bytes_of n x ++ back) ∙ little_number-reads_back n x back fits)

-- bytes that were written are found again
pub part_again : (at : ℕ) (front part back : List ℕ) → length front ≡ at
    → part_at (length part) at (front ++ (part ++ back)) ≡ part
unfolding part_at
part_again at front part back place =
    rw (drop_at front (part ++ back) at place) (take_at part back (length part) refl)

-- the bytes before what was written stay
pub take-splice : (at n : ℕ) (new bytes : List ℕ) → n ≤ at → at ≤ length bytes
    → take n (splice at new bytes) ≡ take n bytes
unfolding splice
take-splice at n new bytes below inside =
    let front = length-take-le at bytes inside in
    let fits : n ≤ length (take at bytes) = omega arith in
    take-append-le n (take at bytes) (new ++ drop (at + length new) bytes) fits ∙ take-take n at bytes below

-- the bytes after what was written stay
pub drop-splice : (at n : ℕ) (new bytes : List ℕ) → at + length new ≤ n → at ≤ length bytes
    → drop n (splice at new bytes) ≡ drop n bytes
unfolding splice
drop-splice at n new bytes above inside =
    let front = length-take-le at bytes inside in
    let joined : length (take at bytes ++ new) ≡ at + length new = length-append (take at bytes) new
    ∙ ap (λ k. k + length new) front in
    let split : (at + length new) + (n - (at + length new)) ≡ n = omega arith in
    ap (λ i. drop i (take at bytes ++ (new ++ drop (at + length new) bytes))) (sym split)
    ∙ sym (drop-drop (n - (at + length new)) (at + length new) (take at bytes
    ++ (new ++ drop (at + length new) bytes)))
    ∙ ap (drop (n - (at + length new))) (ap (drop (at + length new))
    (sym (append_assoc (take at bytes) new (drop (at + length new) bytes))) ∙ drop_at (take at bytes ++ new)
    (drop (at + length new) bytes) (at + length new) joined)
    ∙ drop-drop (n - (at + length new)) (at + length new) bytes
    ∙ ap (λ i. drop i bytes) split

-- the whole keeps its length
pub length-splice : (at : ℕ) (new bytes : List ℕ) → at + length new ≤ length bytes
    → length (splice at new bytes) ≡ length bytes
unfolding splice
length-splice at new bytes inside =
    let front = length-take-le at bytes (omega arith) in
    let outer = length-append (take at bytes) (new ++ drop (at + length new) bytes) in
    let inner = length-append new (drop (at + length new) bytes) in
    let back = length-drop (at + length new) bytes in
    omega arith

-- bytes written right after others are one writing of both
pub splice_more : (at next : ℕ) (xs ys bytes : List ℕ) → next ≡ at + length xs → at ≤ length bytes
    → splice next ys (splice at xs bytes) ≡ splice at (xs ++ ys) bytes
unfolding splice
splice_more at next xs ys bytes place inside =
    let front = length-take-le at bytes inside in
    let joined : length (take at bytes ++ xs) ≡ next = length-append (take at bytes) xs
    ∙ ap (λ k. k + length xs) front ∙ sym place in
    let both = length-append xs ys in
    let end : next + length ys ≡ at + length (xs ++ ys) = omega arith in
    let within : at + length xs ≤ at + length (xs ++ ys) = omega arith in
    let head : take next (splice at xs bytes) ≡ take at bytes ++ xs =
    ap (take next) (sym (append_assoc (take at bytes) xs (drop (at + length xs) bytes)))
    ∙ take_at (take at bytes ++ xs) (drop (at + length xs) bytes) next joined in
    let tail : drop (next + length ys) (splice at xs bytes) ≡ drop (at + length (xs ++ ys)) bytes =
    ap (λ i. drop i (splice at xs bytes)) end
    ∙ drop-splice at (at + length (xs ++ ys)) xs bytes within inside in
    rw (head, tail) (append_assoc (take at bytes) xs (ys ++ drop (at + length (xs ++ ys)) bytes)
    ∙ ap (λ r. take at bytes ++ r) (sym (append_assoc xs ys (drop (at + length (xs ++ ys)) bytes))))

-- what was written stands at its offset
pub part_at-splice : (at : ℕ) (new bytes : List ℕ) → at ≤ length bytes
    → part_at (length new) at (splice at new bytes) ≡ new
unfolding splice
part_at-splice at new bytes inside = part_again at (take at bytes) new (drop (at + length new) bytes)
    (length-take-le at bytes inside)

-- bytes before what was written stay
pub part_at-splice_before : (n i at : ℕ) (new bytes : List ℕ) → i + n ≤ at → at ≤ length bytes
    → part_at n i (splice at new bytes) ≡ part_at n i bytes
part_at-splice_before n i at new bytes below inside =
    sym (part_at-take n i at (splice at new bytes) below)
    ∙ ap (part_at n i) (take-splice at at new bytes (omega arith) inside)
    ∙ part_at-take n i at bytes below

-- bytes after what was written stay
pub part_at-splice_after : (n i at : ℕ) (new bytes : List ℕ) → at + length new ≤ i → at ≤ length bytes
    → part_at n i (splice at new bytes) ≡ part_at n i bytes
unfolding part_at
part_at-splice_after n i at new bytes above inside = ap (take n) (drop-splice at i new bytes above inside)

-- a row of fields takes the sum of their widths
pub length-spelled : (fs : List (ℕ × ℕ)) → length (spelled fs) ≡ width fs
unfolding spelled
length-spelled [] = refl
length-spelled (f ∷ fs) =
    let first = length-bytes_of f.0 f.1 in
    let rest = length-spelled fs in
    rw (length-append (bytes_of f.0 f.1) (spelled fs)) (omega arith)

-- a row of fields that was written is read again, each field as its value
pub reads_again : (at k : ℕ) (fs : List (ℕ × ℕ)) (front back : List ℕ) → length front ≡ at + k → FitAll fs
    → Reads at k fs (front ++ (spelled fs ++ back))
unfolding spelled
reads_again at k [] front back place fits = tt
reads_again at k (f ∷ fs) front back place fits =
    let inner : (bytes_of f.0 f.1 ++ spelled fs) ++ back ≡ bytes_of f.0 f.1
    ++ (spelled fs ++ back) = append_assoc (bytes_of f.0 f.1) (spelled fs) back in
    let outer : front ++ ((bytes_of f.0 f.1 ++ spelled fs) ++ back) ≡ (front ++ bytes_of f.0 f.1)
    ++ (spelled fs ++ back) =
    ap (λ b. front ++ b) inner ∙ sym (append_assoc front (bytes_of f.0 f.1) (spelled fs ++ back)) in
    let width : length (bytes_of f.0 f.1) ≡ f.0 = length-bytes_of f.0 f.1 in
    let joined = length-append front (bytes_of f.0 f.1) in
    let next : length (front ++ bytes_of f.0 f.1) ≡ at + (k + f.0) = omega arith in
    let here = number_again f.0 f.1 (at + k) front (spelled fs ++ back) place fits.0 in
    let rest = reads_again at (k + f.0) fs (front ++ bytes_of f.0 f.1) back next fits.1 in
    (rw inner here, rw outer rest)

-- a row inside m bytes depends only on those bytes
pub reads-own : (m at k : ℕ) (fs : List (ℕ × ℕ)) (xs : List ℕ) → k + width fs ≤ m → Reads at k fs xs
    → Reads 0 k fs (part_at m at xs)
reads-own m at k [] xs within reads = tt
reads-own m at k (f ∷ fs) xs within reads =
    let here : number_at f.0 k (part_at m at xs) ≡ f.1 = number_at-own f.0 k m at xs (omega arith) ∙ reads.0 in
    (rw (zero-add k) here, reads-own m at (k + f.0) fs xs (omega arith) reads.1)

-- a row in the part from i to j is the row i bytes further on in the whole
pub reads-part : (at i j k : ℕ) (fs : List (ℕ × ℕ)) (xs : List ℕ) → at + k + width fs ≤ j - i
    → Reads (i + at) k fs xs → Reads at k fs (slice_range xs i j)
reads-part at i j k [] xs within reads = tt
reads-part at i j k (f ∷ fs) xs within reads =
    let here = number_at-field f.0 k at i j xs (omega arith) ∙ reads.0 in
    (here, reads-part at i j (k + f.0) fs xs (omega arith) reads.1)

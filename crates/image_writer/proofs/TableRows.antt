-- Rows that stand behind one another, and pieces of a list of bytes: what is read at their places.
use Rattle.std.proofs.Common.{◌≡◌, ◌+◌, ◌*◌, ◌<◌, ◌≤◌, ℕ, zero, suc, List, [], ◌∷◌, ◌++◌, length, get_or}
use Rattle.std.proofs.Common.{refl, sym, ap, ◌∙◌, arith, length-append, append_assoc, mul-zero, mul-suc, take_all}
use Rattle.std.proofs.Common.{append-nil, ◌^◌}
use Rattle.std.specs.List.{flat_map}
use Rattle.elf_records.specs.Fields.{part_at, number_at, bytes_of}
use Rattle.elf_records.specs.Laws.{part_at-append, part_at-behind, part_at-own, number_at-own, number_again}

-- rows of w bytes take w bytes each
pub length-rows : {X : Type 0} (f : X → List ℕ) (w : ℕ) → ((x : X) → length (f x) ≡ w) → (xs : List X)
    → length (flat_map f xs) ≡ w * length xs
length-rows f w wide [] = sym (mul-zero w)
length-rows f w wide (x ∷ xs) =
    let rest = length-rows f w wide xs in
    let here = wide x in
    let joined = length-append (f x) (flat_map f xs) in
    let next = mul-suc w (length xs) in
    omega arith

-- the bytes of the whole list, from its start on
part_at-all : (n : ℕ) (xs : List ℕ) → length xs ≡ n → part_at n 0 xs ≡ xs
unfolding part_at
part_at-all n xs long = take_all n xs (omega arith)

-- row k stands at w * k
pub row_at : {X : Type 0} (f : X → List ℕ) (w : ℕ) → ((x : X) → length (f x) ≡ w) → (xs : List X) (k : ℕ) (d : X)
    → k < length xs → part_at w (w * k) (flat_map f xs) ≡ f (get_or xs k d)
row_at f w wide [] k d below = absurd (omega arith)
row_at f w wide (x ∷ xs) zero d below =
    let long = wide x in
    ap (λ at. part_at w at (f x ++ flat_map f xs)) (mul-zero w)
    ∙ part_at-append w 0 (f x) (flat_map f xs) (omega arith)
    ∙ part_at-all w (f x) long
row_at f w wide (x ∷ xs) (suc k) d below =
    let long = wide x in
    let next = mul-suc w k in
    let place : w * suc k ≡ length (f x) + w * k = omega arith in
    ap (λ at. part_at w at (f x ++ flat_map f xs)) place
    ∙ part_at-behind w (w * k) (f x) (flat_map f xs)
    ∙ row_at f w wide xs k d (omega arith)

-- bytes in the first of some pieces
pub in_first : (n at : ℕ) (a rest : List ℕ) → at + n ≤ length a → part_at n at (a ++ rest) ≡ part_at n at a
in_first n at a rest within = part_at-append n at a rest within

-- in the second
pub in_second : (n start at : ℕ) (a b rest : List ℕ) → start ≡ length a → at + n ≤ length b
    → part_at n (start + at) (a ++ (b ++ rest)) ≡ part_at n at b
in_second n start at a b rest place within =
    ap (λ s. part_at n (s + at) (a ++ (b ++ rest))) place
    ∙ part_at-behind n at a (b ++ rest) ∙ part_at-append n at b rest within

-- in the third
pub in_third : (n start at : ℕ) (a b c rest : List ℕ) → start ≡ length a + length b → at + n ≤ length c
    → part_at n (start + at) (a ++ (b ++ (c ++ rest))) ≡ part_at n at c
in_third n start at a b c rest place within =
    let both = length-append a b in
    ap (part_at n (start + at)) (sym (append_assoc a b (c ++ rest)))
    ∙ in_second n start at (a ++ b) c rest (omega arith) within

-- in the fourth
pub in_fourth : (n start at : ℕ) (a b c d rest : List ℕ) → start ≡ length a + length b + length c → at + n ≤ length d
    → part_at n (start + at) (a ++ (b ++ (c ++ (d ++ rest)))) ≡ part_at n at d
in_fourth n start at a b c d rest place within =
    let both = length-append a b in
    ap (part_at n (start + at)) (sym (append_assoc a b (c ++ (d ++ rest))))
    ∙ in_third n start at (a ++ b) c d rest (omega arith) within

-- in the fifth
pub in_fifth : (n start at : ℕ) (a b c d e rest : List ℕ) → start ≡ length a + length b + length c + length d
    → at + n ≤ length e → part_at n (start + at) (a ++ (b ++ (c ++ (d ++ (e ++ rest))))) ≡ part_at n at e
in_fifth n start at a b c d e rest place within =
    let both = length-append a b in
    ap (part_at n (start + at)) (sym (append_assoc a b (c ++ (d ++ (e ++ rest)))))
    ∙ in_fourth n start at (a ++ b) c d e rest (omega arith) within

-- all of the sixth, which is the last
pub in_last : (start : ℕ) (a b c d e s : List ℕ)
    → start ≡ length a + length b + length c + length d + length e
    → part_at (length s) start (a ++ (b ++ (c ++ (d ++ (e ++ s))))) ≡ s
in_last start a b c d e s place =
    let both = length-append a b in
    let none : start ≡ start + 0 = omega arith in
    let n : ℕ = length s in
    let end : s ≡ s ++ [] = sym (append-nil s) in
    ap (λ r. part_at n start (a ++ (b ++ (c ++ (d ++ (e ++ r)))))) end
    ∙ ap (part_at n start) (sym (append_assoc a b (c ++ (d ++ (e ++ (s ++ []))))))
    ∙ ap (λ p. part_at n p ((a ++ b) ++ (c ++ (d ++ (e ++ (s ++ [])))))) none
    ∙ in_fifth n start 0 (a ++ b) c d e s [] (omega arith) (omega arith)
    ∙ part_at-all n s refl

-- how long six pieces are
pub length-pieces : (a b c d e s : List ℕ) → length (a ++ (b ++ (c ++ (d ++ (e ++ s)))))
    ≡ length a + length b + length c + length d + length e + length s
length-pieces a b c d e s =
    let one = length-append a (b ++ (c ++ (d ++ (e ++ s)))) in
    let two = length-append b (c ++ (d ++ (e ++ s))) in
    let three = length-append c (d ++ (e ++ s)) in
    let four = length-append d (e ++ s) in
    let five = length-append e s in
    omega arith

-- bytes of a part that stands in a file
pub in_file : (long offset n at : ℕ) (f part : List ℕ) → part_at long offset f ≡ part → at + n ≤ long
    → part_at n (offset + at) f ≡ part_at n at part
in_file long offset n at f part here within =
    sym (part_at-own n at long offset f within) ∙ ap (part_at n at) here

-- a number whose bytes stand at a place
pub number_there : (n x at : ℕ) (f : List ℕ) → part_at n at f ≡ bytes_of n x → x < 256 ^ n → number_at n at f ≡ x
number_there n x at f here fits =
    let none : at + 0 ≡ at = omega arith in
    let again : number_at n 0 (bytes_of n x) ≡ x =
    ap (number_at n 0) (sym (append-nil (bytes_of n x))) ∙ number_again n x 0 [] [] refl fits in
    ap (λ p. number_at n p f) (sym none) ∙ sym (number_at-own n 0 n at f (omega arith)) ∙ ap (number_at n 0) here
    ∙ again

-- What holds of each list of so many variables holds of each list of that length; and of registers, one by one.
use Rattle.std.proofs.Common.{◌≡◌, ℕ, zero, suc, ◌<◌, ◌≤◌, List, [], ◌∷◌, length, arith}

pub by_none : (P : List ℕ → Type 0) → P [] → (xs : List ℕ) → length xs ≡ 0 → P xs
by_none P all [] e = all
by_none P all (x ∷ xs) e = absurd (omega arith)

pub by_four : (P : List ℕ → Type 0) → ((a b c d : ℕ) → P (a ∷ b ∷ c ∷ d ∷ [])) → (xs : List ℕ) → length xs ≡ 4 → P xs
by_four P all [] e = absurd (omega arith)
by_four P all (a ∷ []) e = absurd (omega arith)
by_four P all (a ∷ b ∷ []) e = absurd (omega arith)
by_four P all (a ∷ b ∷ c ∷ []) e = absurd (omega arith)
by_four P all (a ∷ b ∷ c ∷ d ∷ []) e = all a b c d
by_four P all (a ∷ b ∷ c ∷ d ∷ x ∷ xs) e = absurd (omega arith)

-- two more in front
pub by_six : (P : List ℕ → Type 0) → ((x y a b c d : ℕ) → P (x ∷ y ∷ a ∷ b ∷ c ∷ d ∷ [])) → (xs : List ℕ)
    → length xs ≡ 6
    → P xs
by_six P all [] e = absurd (omega arith)
by_six P all (x ∷ []) e = absurd (omega arith)
by_six P all (x ∷ y ∷ xs) e = by_four (λ xs. P (x ∷ y ∷ xs)) (all x y) xs (omega arith)

-- four more in front
pub by_eight : (P : List ℕ → Type 0)
    → ((v w x y a b c d : ℕ) → P (v ∷ w ∷ x ∷ y ∷ a ∷ b ∷ c ∷ d ∷ [])) → (xs : List ℕ) → length xs ≡ 8 → P xs
by_eight P all [] e = absurd (omega arith)
by_eight P all (v ∷ []) e = absurd (omega arith)
by_eight P all (v ∷ w ∷ xs) e = by_six (λ xs. P (v ∷ w ∷ xs)) (all v w) xs (omega arith)

pub by_low_register : (P : ℕ → Type 0) → P 0 → P 1 → P 2 → P 3 → P 4 → P 5 → P 6 → P 7 → (n : ℕ) → n < 8 → P n
by_low_register P p0 p1 p2 p3 p4 p5 p6 p7 zero e = p0
by_low_register P p0 p1 p2 p3 p4 p5 p6 p7 (suc zero) e = p1
by_low_register P p0 p1 p2 p3 p4 p5 p6 p7 (suc (suc zero)) e = p2
by_low_register P p0 p1 p2 p3 p4 p5 p6 p7 (suc (suc (suc zero))) e = p3
by_low_register P p0 p1 p2 p3 p4 p5 p6 p7 (suc (suc (suc (suc zero)))) e = p4
by_low_register P p0 p1 p2 p3 p4 p5 p6 p7 (suc (suc (suc (suc (suc zero))))) e = p5
by_low_register P p0 p1 p2 p3 p4 p5 p6 p7 (suc (suc (suc (suc (suc (suc zero)))))) e = p6
by_low_register P p0 p1 p2 p3 p4 p5 p6 p7 (suc (suc (suc (suc (suc (suc (suc zero))))))) e = p7
by_low_register P p0 p1 p2 p3 p4 p5 p6 p7 (suc (suc (suc (suc (suc (suc (suc (suc n)))))))) e = absurd (omega arith)

pub by_register : (P : ℕ → Type 0) → P 0 → P 1 → P 2 → P 3 → P 4 → P 5 → P 6 → P 7 → P 8 → P 9 → P 10 → P 11 → P 12
    → P 13 → P 14 → P 15 → (n : ℕ) → n ≤ 15 → P n
by_register P p0 p1 p2 p3 p4 p5 p6 p7 p8 p9 p10 p11 p12 p13 p14 p15 zero e = p0
by_register P p0 p1 p2 p3 p4 p5 p6 p7 p8 p9 p10 p11 p12 p13 p14 p15 (suc zero) e = p1
by_register P p0 p1 p2 p3 p4 p5 p6 p7 p8 p9 p10 p11 p12 p13 p14 p15 (suc (suc zero)) e = p2
by_register P p0 p1 p2 p3 p4 p5 p6 p7 p8 p9 p10 p11 p12 p13 p14 p15 (suc (suc (suc zero))) e = p3
by_register P p0 p1 p2 p3 p4 p5 p6 p7 p8 p9 p10 p11 p12 p13 p14 p15 (suc (suc (suc (suc zero)))) e = p4
by_register P p0 p1 p2 p3 p4 p5 p6 p7 p8 p9 p10 p11 p12 p13 p14 p15 (suc (suc (suc (suc (suc zero))))) e = p5
by_register P p0 p1 p2 p3 p4 p5 p6 p7 p8 p9 p10 p11 p12 p13 p14 p15 (suc (suc (suc (suc (suc (suc zero)))))) e = p6
by_register P p0 p1 p2 p3 p4 p5 p6 p7 p8 p9 p10 p11 p12 p13 p14 p15 (suc (suc (suc (suc (suc (suc (suc zero))))))) e =
    p7
by_register P p0 p1 p2 p3 p4 p5 p6 p7 p8 p9 p10 p11 p12 p13 p14 p15
    (suc (suc (suc (suc (suc (suc (suc (suc n)))))))) e =
    by_low_register (λ n. P (suc (suc (suc (suc (suc (suc (suc (suc n)))))))))
    p8 p9 p10 p11 p12 p13 p14 p15 n (omega arith)

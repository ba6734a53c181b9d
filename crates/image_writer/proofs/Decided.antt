-- Facts that hold or not: of numbers, and of facts made of such.
use Rattle.std.proofs.Common.{◌≡◌, ◌≢◌, ◌<◌, ◌≤◌, ◌⊎◌, ℕ, zero, suc, inl, inr, subst, arith}
use Rattle.image_faults.proofs.Counts.{below_or_at}

-- it holds, or it doesn't
abbrev pub Dec : Type 0 → Type 0
Dec P = P ⊎ (P → ⊥)

-- what can't fail holds, where it holds or not
pub stable : (P : Type 0) → Dec P → ((P → ⊥) → ⊥) → P
stable P known not = elim known [ inl p ↦ p | inr never ↦ absurd (not never) ]

-- two numbers are equal or not
pub dec_eq : (m n : ℕ) → Dec (m ≡ n)
dec_eq m n = grind arith

-- one number is below another or not
pub dec_lt : (m n : ℕ) → Dec (m < n)
dec_lt m n = grind arith

-- one number is at most another or not
pub dec_le : (m n : ℕ) → Dec (m ≤ n)
dec_le m n = grind arith

-- what is equivalent to a known fact is known
pub dec_map : {P Q : Type 0} → (P → Q) → (Q → P) → Dec P → Dec Q
dec_map to from known = elim known [ inl p ↦ inl (to p) | inr never ↦ inr (λ q. never (from q)) ]

-- the negation
pub dec_not : {P : Type 0} → Dec P → Dec (P → ⊥)
dec_not known = elim known [ inl p ↦ inr (λ never. never p) | inr never ↦ inl never ]

-- two numbers differ or not
pub dec_differ : (m n : ℕ) → Dec (m ≢ n)
dec_differ m n = dec_not (dec_eq m n)

-- one of two
pub dec_or : {P Q : Type 0} → Dec P → Dec Q → Dec (P ⊎ Q)
dec_or p q = elim p [
  | inl one ↦ inl (inl one)
  | inr never ↦ elim q [
    | inl other ↦ inl (inr other)
    | inr nor ↦ inr (λ both. elim both [ inl a ↦ never a | inr b ↦ nor b ])
  ]
]

-- both
pub dec_both : {P Q : Type 0} → Dec P → Dec Q → Dec (P × Q)
dec_both p q = elim p [
  | inl one ↦ elim q [ inl other ↦ inl (one, other) | inr never ↦ inr (λ both. never both.1) ]
  | inr never ↦ inr (λ both. never both.0)
]

-- all of three
pub dec_three : {P Q R : Type 0} → Dec P → Dec Q → Dec R → Dec (P × Q × R)
dec_three p q r = dec_map (λ all. (all.0, all.1.0, all.1.1)) (λ all. (all.0, (all.1, all.2)))
    (dec_both p (dec_both q r))

-- all of four
pub dec_four : {P Q R S : Type 0} → Dec P → Dec Q → Dec R → Dec S → Dec (P × Q × R × S)
dec_four p q r s =
    dec_map (λ all. (all.0, all.1.0, all.1.1, all.1.2)) (λ all. (all.0, (all.1, all.2, all.3)))
    (dec_both p (dec_three q r s))

-- all of five
pub dec_five : {P Q R S T : Type 0} → Dec P → Dec Q → Dec R → Dec S → Dec T → Dec (P × Q × R × S × T)
dec_five p q r s t =
    dec_map (λ all. (all.0, all.1.0, all.1.1, all.1.2, all.1.3)) (λ all. (all.0, (all.1, all.2, all.3, all.4)))
    (dec_both p (dec_four q r s t))

-- all of six
pub dec_six : {P Q R S T U : Type 0} → Dec P → Dec Q → Dec R → Dec S → Dec T → Dec U → Dec (P × Q × R × S × T × U)
dec_six p q r s t u =
    dec_map (λ all. (all.0, all.1.0, all.1.1, all.1.2, all.1.3, all.1.4))
    (λ all. (all.0, (all.1, all.2, all.3, all.4, all.5)))
    (dec_both p (dec_five q r s t u))

-- all of seven
pub dec_seven : {P Q R S T U V : Type 0} → Dec P → Dec Q → Dec R → Dec S → Dec T → Dec U → Dec V
    → Dec (P × Q × R × S × T × U × V)
dec_seven p q r s t u v =
    dec_map (λ all. (all.0, all.1.0, all.1.1, all.1.2, all.1.3, all.1.4, all.1.5))
    (λ all. (all.0, (all.1, all.2, all.3, all.4, all.5, all.6)))
    (dec_both p (dec_six q r s t u v))

-- some number below n
pub dec_below : (P : ℕ → Type 0) (n : ℕ) → ((i : ℕ) → Dec (P i)) → Dec ((i : ℕ) × (i < n) × P i)
dec_below P zero known = inr (λ found. omega (arith, found.1))
dec_below P (suc n) known = elim (dec_below P n known) [
  | inl found ↦ inl (found.0, omega (arith, found.1), found.2)
  | inr none ↦ elim (known n) [
    | inl here ↦ inl (n, omega arith, here)
    | inr not ↦ inr (λ found. elim (below_or_at found.0 n found.1) [
      | inl lower ↦ none (found.0, lower, found.2)
      | inr same ↦ not (subst P same found.2)
    ])
  ]
]

-- some number, where all such are below n
pub dec_some : (P : ℕ → Type 0) (n : ℕ) → ((i : ℕ) → P i → i < n) → ((i : ℕ) → Dec (P i)) → Dec ((i : ℕ) × P i)
dec_some P n below known =
    dec_map (λ found. (found.0, found.2)) (λ found. (found.0, below found.0 found.1, found.1)) (dec_below P n known)

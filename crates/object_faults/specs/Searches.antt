-- What the searches for the symbol table and for sections of relocations find.
use Rattle.std.proofs.Common.{◌≡◌, ◌<◌, ◌≤◌, ◌+◌, ◌/◌, ℕ, List, true, false, refl, ap, arith, nat_lt, not}
use Rattle.std.proofs.Common.{IsTrue, ◌==◌, ◌&&◌}
use Rattle.std.proofs.lemmas.Bool.Decides.{nat_tests}
use Rattle.object_faults.specs.Parts.{header, section, IsRela, symbol_table, symbol_count}
use Rattle.object_faults.specs.Parts.{is_table, relocation_table, relocates}
use Rattle.object_faults.specs.Firsts.{first_below}
use Rattle.object_faults.specs.Faults.{IsSecond}
use Rattle.object_faults.specs.FirstLaws.{first_none, first_found, first_passes, first_least, first_same, first_kept}
use Rattle.object_faults.specs.FirstLaws.{first_new}

both : (s n k : ℕ) → 0 < s → n ≡ k → (nat_lt 0 s && (n == k)) ≡ true
both s n k above same = grind (arith, nat_tests)

not_both : (s n k : ℕ) → (n ≡ k → ⊥) → (nat_lt 0 s && (n == k)) ≡ false
not_both s n k other = grind (arith, nat_tests)

of_both : (s n k : ℕ) → (nat_lt 0 s && (n == k)) ≡ true → (0 < s) × (n ≡ k)
of_both s n k h = grind (arith, nat_tests)

-- one section more, which holds no symbols
pub no_table_more : (b : List ℕ) (s : ℕ) → first_below (is_table b) s ≡ 0 → ((section b s).kind ≡ 2 → ⊥)
    → first_below (is_table b) (s + 1) ≡ 0
no_table_more b s none other = first_none (is_table b) s none (not_both s (section b s).kind 2 other)

-- the first section that holds symbols
pub table_found : (b : List ℕ) (s : ℕ) → 0 < s → s < (header b).e_shnum → first_below (is_table b) s ≡ 0
    → (section b s).kind ≡ 2 → symbol_table b ≡ s
unfolding symbol_table
table_found b s above below none same = first_found (is_table b) s (header b).e_shnum above none
    (both s (section b s).kind 2 above same) below

-- the symbol table is a section that holds symbols
pub table_is : (b : List ℕ) → 0 < symbol_table b
    → (symbol_table b < (header b).e_shnum) × ((section b (symbol_table b)).kind ≡ 2)
unfolding symbol_table
table_is b some =
    let found = first_passes (is_table b) (header b).e_shnum some in
    (found.1, (of_both (symbol_table b) (section b (symbol_table b)).kind 2 found.0).1)

-- where a section holds symbols, there is a symbol table, and no section of symbols comes before it
pub table_least : (b : List ℕ) (s : ℕ) → 0 < s → s < (header b).e_shnum → (section b s).kind ≡ 2
    → (0 < symbol_table b) × (symbol_table b ≤ s)
unfolding symbol_table
table_least b s above below same = first_least (is_table b) (header b).e_shnum s above below
    (both s (section b s).kind 2 above same)

-- where there is a symbol table, its entries are counted
pub count_of_table : (b : List ℕ) (t : ℕ) → t ≡ symbol_table b → 0 < t → symbol_count b ≡ (section b t).size / 24
count_of_table b t same some = let above : 0 < symbol_table b = omega arith in grind
    (arith, nat_tests, ap (section b) same)

three : (r n k m t : ℕ) → 0 < r → n ≡ k → m ≡ t → (nat_lt 0 r && ((n == k) && (m == t))) ≡ true
three r n k m t above same target = grind (arith, nat_tests)

not_three : (r n k m t : ℕ) → ((n ≡ k) → (m ≡ t) → ⊥) → (nat_lt 0 r && ((n == k) && (m == t))) ≡ false
not_three r n k m t other = grind (arith, nat_tests)

of_three : (r n k m t : ℕ) → (nat_lt 0 r && ((n == k) && (m == t))) ≡ true → (0 < r) × (n ≡ k) × (m ≡ t)
of_three r n k m t h = grind (arith, nat_tests)

-- where a section is found that holds relocations of the same target, there is an earlier one
pub second_found : (b : List ℕ) (r x : ℕ) → x ≡ first_below (relocates b (section b r).info) r → (x ≡ 0 → ⊥)
    → r < (header b).e_shnum → IsSecond b r
second_found b r x same some below =
    let t = (section b r).info in
    let q = first_below (relocates b t) r in
    let found = first_passes (relocates b t) r (omega (arith, same)) in
    let passes = of_three q (section b q).kind 4 (section b q).info t found.0 in
    (q, found.1, ((passes.0, omega (arith, found.1)), passes.1), passes.2)

-- an earlier section that holds relocations of the same target is found
pub second_is : (b : List ℕ) (r x : ℕ) → x ≡ first_below (relocates b (section b r).info) r → IsSecond b r → x ≡ 0 → ⊥
second_is b r x same second none =
    let q = second.0 in
    let t = (section b r).info in
    let found = first_least (relocates b t) r q second.2.0.0 second.1
    (three q (section b q).kind 4 (section b q).info t second.2.0.0 second.2.1 second.3) in
    omega (arith, same, found.0)

-- one section more, which holds no relocations of target t
pub target_same : (b : List ℕ) (t s : ℕ) → ((section b s).kind ≡ 4 → (section b s).info ≡ t → ⊥)
    → first_below (relocates b t) (s + 1) ≡ first_below (relocates b t) s
target_same b t s other = first_same (relocates b t) s (not_three s (section b s).kind 4 (section b s).info t other)

-- one section more, where an earlier one holds relocations of target t
pub target_kept : (b : List ℕ) (t s : ℕ) → (first_below (relocates b t) s ≡ 0 → ⊥)
    → first_below (relocates b t) (s + 1) ≡ first_below (relocates b t) s
target_kept b t s some = first_kept (relocates b t) s some

-- one section more, the first to hold relocations of target t
pub target_new : (b : List ℕ) (t s : ℕ) → 0 < s → first_below (relocates b t) s ≡ 0 → (section b s).kind ≡ 4
    → (section b s).info ≡ t → first_below (relocates b t) (s + 1) ≡ s
target_new b t s above none same target = first_new (relocates b t) s none
    (three s (section b s).kind 4 (section b s).info t above same target)

-- before the first section nothing is found
pub target_none : (b : List ℕ) (t : ℕ) → first_below (relocates b t) 1 ≡ 0
unfolding first_below
target_none b t = refl

-- a test for a number other than 0
pub test_nonzero : (x : ℕ) (P : Type 0) → ((x ≡ 0 → ⊥) → P) → (P → x ≡ 0 → ⊥)
    → (IsTrue (not (x == 0)) → P) × (P → IsTrue (not (x == 0)))
test_nonzero x P to from = (λ t. to (nonzero_of t), λ p. of_nonzero (from p))
  where
    nonzero_of : IsTrue (not (x == 0)) → x ≡ 0 → ⊥
    nonzero_of t z = grind (arith, nat_tests)

    of_nonzero : (x ≡ 0 → ⊥) → IsTrue (not (x == 0))
    of_nonzero some = grind (arith, nat_tests)

-- the section that holds the relocations of another one
pub relocates_is : (b : List ℕ) (t : ℕ) → 0 < relocation_table b t
    → IsRela b (relocation_table b t) × ((section b (relocation_table b t)).info ≡ t)
unfolding relocation_table
relocates_is b t some =
    let found = first_passes (relocates b t) (header b).e_shnum some in
    let passes = of_three (relocation_table b t) (section b (relocation_table b t)).kind 4
    (section b (relocation_table b t)).info t found.0 in
    (((passes.0, found.1), passes.1), passes.2)

-- The places of an image's relocations rise.
use Rattle.std.proofs.Common.{◌≡◌, ◌∙◌, ◌+◌, ◌-◌, ◌<◌, ◌≤◌, ℕ, zero, suc, List, Some, sym, ap, subst, inl, inr, arith}
use Rattle.std.proofs.Common.{nat_lt, true, false}
use Rattle.std.proofs.lemmas.Bool.Decides.{nat_tests}
use Rattle.std.specs.List.{slice_get}
use Rattle.std.proofs.lemmas.Option.{slice_get_within}
use Rattle.image_rules.specs.declared.rule.Rule.TheVariants.{Table}
use Rattle.image_rules.specs.declared.rule.TableRule.TheVariants.{Relocation}
use Rattle.image_faults.specs.Array.{relocation_count}
use Rattle.image_faults.specs.Faults.{Breaks, IsImage}
use Rattle.elf_records.specs.Records.{rela_kind}
use Rattle.image_faults.specs.Relocations.{IsBehindLast, field_width, rela}
use Rattle.image_file.specs.declared.relocation.ImageRelocation.{ImageRelocation}
use Rattle.image_file.specs.Spelled.{Spelled, relocation_of, spelled}
use Rattle.image_file.specs.Tabled.{length-tabled, tabled_at}
use Rattle.loaded_modules.specs.Places.{AllBelow, NoneBelow}
use Rattle.loaded_modules.proofs.TlsKept.{at_most as not_past}

back : (k : ℕ) → suc k - 1 ≡ k
back k = omega arith

module _ (b : List ℕ) (image : IsImage b) where
  next : (k : ℕ) → suc k < relocation_count b → (rela b k).offset ≤ (rela b (suc k)).offset
  unfolding Breaks
  next k inside = not_past (rela b k).offset (rela b (suc k)).offset
      (λ no. image (Table Relocation) (suc k) (inside, λ right. behind no right.2))
    where
      behind : ((rela b k).offset ≤ (rela b (suc k)).offset → ⊥) → IsBehindLast b (suc k) → ⊥
      behind unsaid (inl first) = cc
      behind unsaid (inr rest) =
          unsaid (let step = subst
          (λ j. (rela b j).offset + field_width (rela_kind (rela b j)) ≤ (rela b (suc k)).offset) (back k) rest in
          omega (arith, step))

  rises : (j d : ℕ) → j + d < relocation_count b → (rela b j).offset ≤ (rela b (j + d)).offset
  rises j zero inside = subst (λ k. (rela b j).offset ≤ (rela b k).offset) (zero_more j) (omega arith)
    where
      zero_more : (j : ℕ) → j ≡ j + 0
      zero_more j = omega arith
  rises j (suc d) inside =
      let one = rises j d (omega (arith, inside)) in
      let two = next (j + d) (omega (arith, inside)) in
      let all : (rela b j).offset ≤ (rela b (suc (j + d))).offset = omega (arith, one, two) in
      subst (λ k. (rela b j).offset ≤ (rela b k).offset) (one_more j d) all
    where
      one_more : (j d : ℕ) → suc (j + d) ≡ j + suc d
      one_more j d = omega arith

  place_at : (k : ℕ) (r : ImageRelocation) → slice_get (spelled b).relocations k ≡ Some r
      → (k < relocation_count b) × ((rela b k).offset ≡ r.place)
  unfolding relocation_of
  place_at k r is =
      let within : k < relocation_count b = let lt = slice_get_within (spelled b).relocations k r is in
      let long = length-tabled (λ k. relocation_of (rela b k)) (relocation_count b) in omega (arith, lt, long) in (
        within,
        same (relocation_of (rela b k)) r
            (sym (tabled_at (λ k. relocation_of (rela b k)) (relocation_count b) k within) ∙ is),
      )
    where
      same : (x y : ImageRelocation) → Some x ≡ Some y → x.place ≡ y.place
      same x y e = cc

  rising : (j k : ℕ) (q r : ImageRelocation) → slice_get (spelled b).relocations j ≡ Some q
      → slice_get (spelled b).relocations k ≡ Some r → j ≤ k → q.place ≤ r.place
  rising j k q r at_j at_k le =
      let one = place_at j q at_j in
      let two = place_at k r at_k in
      let step = rises j (k - j) (omega (arith, le, two.0)) in
      let there : (rela b j).offset ≤ (rela b k).offset =
      subst (λ n. (rela b j).offset ≤ (rela b n).offset) (omega (arith, le)) step in
      omega (arith, one.1, two.1, there)

module _ (image : Spelled) (is : (b : List ℕ) × (IsImage b × (image ≡ spelled b))) where
  pub image_rises : (j k : ℕ) (q r : ImageRelocation) → slice_get image.relocations j ≡ Some q
      → slice_get image.relocations k ≡ Some r → j ≤ k → q.place ≤ r.place
  image_rises j k q r at_j at_k le =
      let back = ap (λ (i : Spelled). i.relocations) is.1.1 in
      rising is.0 is.1.0 j k q r (ap (λ (rs : List ImageRelocation). slice_get rs j) (sym back) ∙ at_j)
      (ap (λ (rs : List ImageRelocation). slice_get rs k) (sym back) ∙ at_k) le

  pub all_below : (n address : ℕ) (r : ImageRelocation) → Some r ≡ slice_get image.relocations n → r.place < address
      → AllBelow image.relocations (n + 1) address
  all_below n address r here lt = λ k q before at. let le = image_rises k n q r at (sym here) (omega (arith, before)) in
      omega (arith, le, lt)

  pub none_below : (n address : ℕ) (r : ImageRelocation) → Some r ≡ slice_get image.relocations n → address ≤ r.place
      → NoneBelow image.relocations n address
  none_below n address r here ge = λ k q behind at. let le = image_rises n k r q (sym here) at behind in
      omega (arith, le, ge)

-- what a test of two numbers says
pub test_true : (m n : ℕ) → nat_lt m n ≡ true → m < n
test_true m n h = grind (arith, nat_tests)

pub test_false : (m n : ℕ) → nat_lt m n ≡ false → n ≤ m
test_false m n h = grind (arith, nat_tests)

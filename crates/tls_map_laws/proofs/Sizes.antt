-- How far below the thread pointer the blocks of startup images begin.
use Rattle.std.proofs.Common.{◌≡◌, ◌+◌, ◌<◌, ◌≤◌, ℕ, zero, suc, true, false, List, [], ◌∷◌, cond, length, get_or, take}
use Rattle.std.proofs.Common.{refl, arith, inl, inr}
use Rattle.std.specs.Prelude.{AllPairs, not}
use Rattle.std.specs.Int.{next_multiple_of}
use Rattle.std.proofs.lemmas.Bool.{both_ways, cases_Bool}
use Rattle.std.proofs.lemmas.List.Sums.{sum_by-cons}
use Rattle.module_table.proofs.LawsOfBlocks.{rounds_up}
use Rattle.module_table.specs.declared.modules.ImageInfo.{ImageInfo}
use Rattle.module_table.specs.Modules.{startup_end}
use Rattle.module_table.specs.Past.{startup_count}

end_grows : (infos : List ImageInfo) (k taken : ℕ) → taken ≤ startup_end (take k infos) taken
end_grows infos zero taken = omega arith
end_grows [] (suc k) taken = omega arith
end_grows (x ∷ xs) (suc k) taken = elim (cases_Bool x.late) [
  | inl late ↦ rw late (end_grows xs k taken)
  | inr early ↦
      let up = rounds_up (taken + x.size) x.align in
      rw early (omega (arith, end_grows xs k (next_multiple_of (taken + x.size) x.align), up))
]

pub end_rises : (infos : List ImageInfo) (j k taken : ℕ) → j ≤ k
    → startup_end (take j infos) taken ≤ startup_end (take k infos) taken
end_rises infos zero k taken less = end_grows infos k taken
end_rises infos (suc j) zero taken less = absurd (omega (arith, less))
end_rises [] (suc j) (suc k) taken less = omega arith
end_rises (x ∷ xs) (suc j) (suc k) taken less = elim (cases_Bool x.late) [
  | inl late ↦ rw late (end_rises xs j k taken (omega (arith, less)))
  | inr early ↦ rw early (end_rises xs j k (next_multiple_of (taken + x.size) x.align) (omega (arith, less)))
]

-- a startup image's block lies past where those of the images before it begin
pub end_past : (infos : List ImageInfo) (k taken : ℕ) (d : ImageInfo) → k < length infos
    → (get_or infos k d).late ≡ false
    → startup_end (take k infos) taken + (get_or infos k d).size ≤ startup_end (take (suc k) infos) taken
end_past [] k taken d within early = absurd (omega (arith, within))
end_past (x ∷ xs) zero taken d within early =
    let up = rounds_up (taken + x.size) x.align in rw early (omega (arith, up))
end_past (x ∷ xs) (suc k) taken d within early = elim (cases_Bool x.late) [
  | inl late ↦ rw late (end_past xs k taken d (omega (arith, within)) early)
  | inr first ↦ rw first (end_past xs k (next_multiple_of (taken + x.size) x.align) d (omega (arith, within)) early)
]

pub end_most : (infos : List ImageInfo) (k taken : ℕ) → startup_end (take k infos) taken ≤ startup_end infos taken
end_most [] zero taken = omega arith
end_most [] (suc k) taken = omega arith
end_most (x ∷ xs) zero taken = elim (cases_Bool x.late) [
  | inl late ↦ rw late (end_most xs 0 taken)
  | inr early ↦
      let up = rounds_up (taken + x.size) x.align in
      rw early (omega (arith, end_most xs 0 (next_multiple_of (taken + x.size) x.align), up))
]
end_most (x ∷ xs) (suc k) taken = elim (cases_Bool x.late) [
  | inl late ↦ rw late (end_most xs k taken)
  | inr early ↦ rw early (end_most xs k (next_multiple_of (taken + x.size) x.align))
]

-- where late images are last, an image that starts with the program is one of the first
pub early_counts : (infos : List ImageInfo) (k : ℕ) (d : ImageInfo)
    → AllPairs (λ (a b : ImageInfo). a.late ≡ true → b.late ≡ true) infos → k < length infos
    → (get_or infos k d).late ≡ false → k < startup_count infos
early_counts [] k d last within early = absurd (omega (arith, within))
early_counts (x ∷ xs) zero d last within early =
    let here : startup_count (x ∷ xs) ≡ 1 + startup_count xs =
    rw (sum_by-cons (λ (i : ImageInfo). cond (not i.late) 1 0) x xs, early) refl in
    omega (arith, here)
early_counts (x ∷ xs) (suc k) d last within early = elim (cases_Bool x.late) [
  | inl late ↦ absurd (both_ways _ early (last 0 (suc k) d (omega arith) within late))
  | inr first ↦
      let here : startup_count (x ∷ xs) ≡ 1 + startup_count xs =
      rw (sum_by-cons (λ (i : ImageInfo). cond (not i.late) 1 0) x xs, first) refl in
      let rest = early_counts xs k d
      (λ a b e less inside. last (suc a) (suc b) e (omega (arith, less)) (omega (arith, inside)))
      (omega (arith, within)) early in
      omega (arith, here, rest)
]

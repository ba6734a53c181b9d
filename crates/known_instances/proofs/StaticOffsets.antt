-- How far below the thread pointer the startup images' blocks begin.
use Rattle.std.proofs.Common.{◌≡◌, ℕ, zero, suc, ◌+◌, ◌-◌, ◌*◌, ◌%◌, ◌<◌, ◌≤◌, Bool, true, false, List, [], ◌∷◌, length}
use Rattle.std.proofs.Common.{get_or, Option, Some, None, refl, arith, inl, inr}
use Rattle.std.proofs.Math.Nat.{mod-lt}
use Rattle.std.specs.Prelude.{All, IfSome, take, if◌then◌else◌}
use Rattle.std.specs.Int.{next_multiple_of}
use Rattle.std.proofs.lemmas.Bool.{cases_Bool}
use Rattle.module_table.specs.declared.modules.ImageInfo.{ImageInfo}
use Rattle.module_table.specs.Modules.{startup_end}
use Rattle.module_table.specs.Modules.{IsInfo}
use Rattle.module_table.proofs.LawsOfBlocks.{rounds_up}

-- rounding up, and by how much
rounds_near : (n align : ℕ) → 0 < align → next_multiple_of n align ≤ n + align
rounds_near n align some =
    let low : (align - n % align) % align < align = mod-lt (align - n % align) some in
    omega (arith, low)

-- 64 images of at most 2^20 bytes, each rounded up by less than a page
pub end_low : (infos : List ImageInfo) (a taken : ℕ) → All IsInfo infos
    → startup_end (take a infos) taken ≤ taken + length infos * 1052672
end_low infos zero taken each = omega arith
end_low [] (suc a) taken each = omega arith
end_low (x ∷ xs) (suc a) taken each =
    let rest = λ (n : ℕ). end_low xs a n (λ k d l. each (suc k) d (omega arith)) in
    let is : IsInfo x = each 0 x (omega arith) in
    elim (cases_Bool x.late) [
      | inl late ↦ rw late (omega (arith, rest taken))
      | inr early ↦
          let next : next_multiple_of (taken + x.size) x.align ≤ taken + x.size + x.align =
          rounds_near (taken + x.size) x.align is.aligned in
          rw early (omega (arith, rest (next_multiple_of (taken + x.size) x.align), next, is.small, is.page))
    ]

-- an image more never needs less
end_grows : (infos : List ImageInfo) (a taken : ℕ) → taken ≤ startup_end (take a infos) taken
end_grows infos zero taken = omega arith
end_grows [] (suc a) taken = omega arith
end_grows (x ∷ xs) (suc a) taken = elim (cases_Bool x.late) [
  | inl late ↦ rw late (end_grows xs a taken)
  | inr early ↦
      let up = rounds_up (taken + x.size) x.align in
      rw early (omega (arith, end_grows xs a (next_multiple_of (taken + x.size) x.align), up))
]

-- the block of startup image k ends where the next one may begin
pub end_holds : (infos : List ImageInfo) (k taken : ℕ) (d : ImageInfo) → k < length infos
    → (get_or infos k d).late ≡ false
    → taken + (get_or infos k d).size ≤ startup_end (take (suc k) infos) taken
end_holds [] k taken d l early = absurd (omega arith)
end_holds (x ∷ xs) zero taken d l early = rw early (rounds_up (taken + x.size) x.align)
end_holds (x ∷ xs) (suc k) taken d l early =
    let rest = λ (n : ℕ). end_holds xs k n d (omega arith) early in
    elim (cases_Bool x.late) [
      | inl late ↦ rw late (rest taken)
      | inr first ↦
          let up = rounds_up (taken + x.size) x.align in
          rw first (omega (arith, rest (next_multiple_of (taken + x.size) x.align), up))
    ]

-- an offset, by whether the image came late
pub offset_if : (late : Bool) (o : Option ℕ) (e : ℕ) (P : ℕ → Type 0) → (late ≡ true → (x : ℕ) → o ≡ Some x → P x)
    → (late ≡ false → P e)
    → IfSome (if late then o else Some e) P
offset_if true None e P a b = tt
offset_if true (Some x) e P a b = a refl x refl
offset_if false o e P a b = b refl

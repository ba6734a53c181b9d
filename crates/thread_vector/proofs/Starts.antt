-- Where blocks begin.
use Rattle.std.proofs.Common.{◌≡◌, ℕ, zero, suc, ◌+◌, ◌<◌, ◌≤◌, ◌^◌, List, [], ◌∷◌, Some, None, sym, refl, ◌∙◌, arith}
use Rattle.std.proofs.Common.{inl, inr}
use Rattle.std.specs.Prelude.{take}
use Rattle.std.specs.Int.{next_multiple_of}
use Rattle.std.proofs.lemmas.Bool.{cases_Bool}
use Rattle.std.proofs.lemmas.Option.{same_Some}
use Rattle.address_map.specs.Map.{block_place}
use Rattle.module_table.specs.declared.TheConstants.{SURPLUS}
use Rattle.module_table.specs.declared.modules.ImageInfo.{ImageInfo}
use Rattle.module_table.specs.Past.{Past, module_of}
use Rattle.module_table.specs.PastLaws.{image_of}
use Rattle.module_table.specs.Modules.{startup_end}
use Rattle.loaded_modules.specs.Images.{JobImages, infos, last_offset, static_offset}
use Rattle.thread_vector.specs.Addresses.{distance_of, start_of}
use Rattle.thread_vector.specs.Holding.{IsLeftBy}
use Rattle.thread_vector.proofs.Facts.{facts}

pub start_none : (thread : ℕ) (images : JobImages) (p : Past) (i : ℕ) → image_of p i ≡ None
    → start_of thread images p i ≡ 0
unfolding start_of
start_none thread images p i e = rw e refl

pub start_some : (thread : ℕ) (images : JobImages) (p : Past) (i a : ℕ) → image_of p i ≡ Some a
    → start_of thread images p i ≡ block_place thread i (distance_of images a (module_of p a))
unfolding start_of
start_some thread images p i a e = rw e refl

-- ---- startup blocks lie one past the other

pub past_size : (taken : ℕ) (x : ImageInfo) → taken + x.size ≤ next_multiple_of (taken + x.size) x.align
past_size taken x = omega arith

pub end_past : (xs : List ImageInfo) (taken : ℕ) → taken ≤ startup_end xs taken
end_past [] taken = omega arith
end_past (x ∷ xs) taken = elim (cases_Bool x.late) [
  | inl t ↦ rw t (end_past xs taken)
  | inr f ↦ rw f (omega (arith, past_size taken x, end_past xs (next_multiple_of (taken + x.size) x.align)))
]

pub end_of_front : (xs : List ImageInfo) (n taken : ℕ) → startup_end (take n xs) taken ≤ startup_end xs taken
end_of_front xs zero taken = end_past xs taken
end_of_front [] (suc n) taken = omega arith
end_of_front (x ∷ xs) (suc n) taken = elim (cases_Bool x.late) [
  | inl t ↦ rw t (end_of_front xs n taken)
  | inr f ↦ rw f (end_of_front xs n (next_multiple_of (taken + x.size) x.align))
]

pub static_low : (images : JobImages) (image : ℕ) → static_offset images image ≤ last_offset images
unfolding static_offset last_offset
static_low images image = end_of_front (infos images) image 0

pub distance_small : (images : JobImages) (p : Past) (a distance : ℕ) → IsLeftBy images p
    → distance_of images a (module_of p a) ≡ Some distance → distance < 2 ^ 28
distance_small images p a distance l e = elim (cases_Bool (module_of p a).info.late) [
  | inl t ↦
      let at : (module_of p a).offset ≡ Some distance = sym (rw t refl) ∙ e in
      let below : distance ≤ last_offset images + SURPLUS = (facts images p l).apart.below a distance at in
      omega (arith, l.legal.low)
  | inr f ↦
      let at : Some (static_offset images a) ≡ Some distance = sym (rw f refl) ∙ e in
      let same : static_offset images a ≡ distance = same_Some (static_offset images a) distance at in
      omega (arith, l.legal.low, static_low images a)
]

-- The live instances, image by image.
use Rattle.std.proofs.Common.{◌≡◌, ◌∙◌, ◌+◌, ◌≤◌, ◌++◌, ℕ, List, [], ◌∷◌, length, drop, Some, None, refl, sym, ap, inl}
use Rattle.std.proofs.Common.{inr, arith, add-one}
use Rattle.std.specs.Prelude.{option_to_list}
use Rattle.std.proofs.Math.Seq.{drop-cons}
use Rattle.std.proofs.lemmas.Bool.{cases_lt}
use Rattle.std.proofs.lemmas.List.{append_assoc, append-nil, drop_all, get_or_past}
use Rattle.loaded_modules.specs.declared.instance.Instance.{Instance}
use Rattle.loaded_modules.specs.Images.{JobImages, infos, static_offset}
use Rattle.module_table.specs.Modules.{no_module}
use Rattle.module_table.specs.Past.{Past, module_of}
use Rattle.thread_blocks.specs.Instances.{instances_from, instances_in, loaded_instance}
use Rattle.thread_space.specs.Kept.{live_in}
use Rattle.thread_vector.specs.Holding.{IsLeftBy}
use Rattle.thread_vector.specs.Vectors.{instance_at}
use Rattle.thread_vector.proofs.Facts.{facts}

module _ (m : JobImages) (p : Past) where
  -- those of the images from a number on
  abbrev pub from_image : ℕ → List Instance
  from_image i = instances_from (infos m) i (drop i p.modules)

  pub all_from : live_in m p ≡ from_image 0
  unfolding instances_in
  all_from = refl

  same_instance : (i : ℕ) → loaded_instance (infos m) i (module_of p i) ≡ instance_at m p i
  unfolding static_offset
  same_instance i = refl

  from_next : (i : ℕ) → from_image i ≡ option_to_list (loaded_instance (infos m) i (module_of p i))
      ++ from_image (i + 1)
  from_next i = elim (cases_lt i (length p.modules)) [
    | inl within ↦ rw (drop-cons p.modules i no_module, add-one) refl
    | inr past ↦ rw (
      drop_all i p.modules past,
      drop_all (i + 1) p.modules (omega (arith, past)),
      get_or_past p.modules i no_module past,
    ) refl
  ]

  pub listed_one : (i : ℕ) (items : List Instance) (x : Instance) → live_in m p ≡ items ++ from_image i
      → instance_at m p i ≡ Some x
      → live_in m p ≡ (items ++ x ∷ []) ++ from_image (i + 1)
  listed_one i items x so_far is =
      so_far ∙ ap (λ rest. items ++ rest)
      (from_next i ∙ ap (λ o. option_to_list o ++ from_image (i + 1)) (same_instance i ∙ is))
      ∙ sym (append_assoc items (x ∷ []) (from_image (i + 1)))

  pub listed_none : (i : ℕ) (items : List Instance) → live_in m p ≡ items ++ from_image i → instance_at m p i ≡ None
      → live_in m p ≡ items ++ from_image (i + 1)
  listed_none i items so_far is =
      so_far ∙ ap (λ rest. items ++ rest)
      (from_next i ∙ ap (λ o. option_to_list o ++ from_image (i + 1)) (same_instance i ∙ is))

  pub listed_all : (i : ℕ) (items : List Instance) → IsLeftBy m p → live_in m p ≡ items ++ from_image i → 65 ≤ i
      → items ≡ live_in m p
  listed_all i items left so_far past =
      let long : length p.modules ≤ i = omega (arith, (facts m p left).long, left.legal.images.few) in
      sym (so_far ∙ rw (drop_all i p.modules long) (append-nil items))

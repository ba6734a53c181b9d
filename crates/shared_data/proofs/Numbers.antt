-- No two live instances of a legal history have one number.
use Rattle.std.proofs.Common.{◌≡◌, ◌∙◌, ◌+◌, ℕ, suc, true, List, [], ◌∷◌, ◌++◌, get_or, Option, Some, None, refl, sym}
use Rattle.std.proofs.Common.{ap, inl, inr, arith}
use Rattle.std.specs.Prelude.{option_to_list}
use Rattle.std.proofs.lemmas.Bool.{cases_eq}
use Rattle.loaded_modules.specs.declared.instance.Instance.{Instance}
use Rattle.module_table.specs.declared.modules.ImageInfo.{ImageInfo}
use Rattle.module_table.specs.declared.modules.Module.{Module}
use Rattle.module_table.specs.declared.events.Event.{Event}
use Rattle.module_table.specs.Past.{IsLegal}
use Rattle.module_table.specs.Modules.{is_loaded, no_module}
use Rattle.module_table.specs.Past.{past}
use Rattle.module_table.proofs.LawsOfNumbers.{own_numbers}
use Rattle.thread_blocks.specs.Instances.{Loads, instance_at, instances, instances_from, instances_in, loaded_instance}
use Rattle.known_instances.proofs.Found.{loaded_as}
use Rattle.shared_data.proofs.Fits.{HaveOwnNumbers}
use Rattle.shared_data.proofs.Held.{AreOne}
use Rattle.shared_data.proofs.Left.{Each}

module _ (infos : List ImageInfo) where
  -- an instance stands for one of the modules, from an image on
  abbrev StandsAt : ℕ → List Module → Instance → Type 0
  StandsAt image ms x = (a : ℕ) × (loaded_instance infos (image + a) (get_or ms a no_module) ≡ Some x)

  at_later : (image : ℕ) (m : Module) (ms : List Module) (x : Instance) → StandsAt (suc image) ms x
      → StandsAt image (m ∷ ms) x
  at_later image m ms x at =
      (suc at.0, ap (λ (i : ℕ). loaded_instance infos i (get_or ms at.0 no_module)) (omega arith) ∙ at.1)

  all_later : (image : ℕ) (m : Module) (ms : List Module) (xs : List Instance) → Each (StandsAt (suc image) ms) xs
      → Each (StandsAt image (m ∷ ms)) xs
  all_later image m ms [] each = tt
  all_later image m ms (x ∷ xs) each = (at_later image m ms x each.0, all_later image m ms xs each.1)

  all_stand : (image : ℕ) (ms : List Module) → Each (StandsAt image ms) (instances_from infos image ms)
  all_stand image [] = tt
  all_stand image (m ∷ ms) = first (loaded_instance infos image m) refl
      (all_later image m ms (instances_from infos (suc image) ms) (all_stand (suc image) ms))
    where
      first : (o : Option Instance) → loaded_instance infos image m ≡ o
          → Each (StandsAt image (m ∷ ms)) (instances_from infos (suc image) ms)
          → Each (StandsAt image (m ∷ ms)) (option_to_list o ++ instances_from infos (suc image) ms)
      first None e rest = rest
      first (Some x) e rest = ((0, ap (λ (i : ℕ). loaded_instance infos i m) (omega arith) ∙ e), rest)

  -- images with the same number are one image
  abbrev OwnNumbers : List Module → Type 0
  OwnNumbers ms =
      (a b : ℕ) → (a ≡ b → ⊥) → is_loaded (get_or ms a no_module) ≡ true → is_loaded (get_or ms b no_module) ≡ true
      → (get_or ms a no_module).instance ≡ (get_or ms b no_module).instance → ⊥

  -- two modules whose instances have one number
  same_place : (image : ℕ) (ms : List Module) → OwnNumbers ms → (a b : ℕ) (x y : Instance)
      → loaded_instance infos (image + a) (get_or ms a no_module) ≡ Some x
      → loaded_instance infos (image + b) (get_or ms b no_module) ≡ Some y → x.number ≡ y.number → a ≡ b
  same_place image ms own a b x y ex ey same = elim (cases_eq a b) [
    | inl e ↦ e
    | inr ne ↦
        let fx = loaded_as infos (image + a) (get_or ms a no_module) x ex in
        let fy = loaded_as infos (image + b) (get_or ms b no_module) y ey in
        absurd (own a b ne fx.loaded fy.loaded
        (ap (λ (z : Instance). z.number) fx.is ∙ (same ∙ sym (ap (λ (z : Instance). z.number) fy.is))))
  ]

  rest_own : (m : Module) (ms : List Module) → OwnNumbers (m ∷ ms) → OwnNumbers ms
  rest_own m ms own a b ne ta tb e = own (suc a) (suc b) (λ same. ne (omega (arith, same))) ta tb e

  own_from : (image : ℕ) (ms : List Module) → OwnNumbers ms → HaveOwnNumbers (instances_from infos image ms)
  unfolding at_later
  own_from image [] own = tt
  own_from image (m ∷ ms) own =
      first (loaded_instance infos image m) refl (own_from (suc image) ms (rest_own m ms own))
    where
      apart : (x : Instance) → loaded_instance infos image m ≡ Some x → (xs : List Instance)
          → Each (StandsAt (suc image) ms) xs
          → Each (λ (y : Instance). x.number ≡ y.number → ⊥) xs
      apart x e [] each = tt
      apart x e (y ∷ ys) each = (
        (λ same.
            let later = at_later image m ms y each.0 in
            let none : 0 ≡ suc each.0.0 = same_place image (m ∷ ms) own 0 (suc each.0.0) x y
            (ap (λ (i : ℕ). loaded_instance infos i m) (omega arith) ∙ e) later.1 same in
            omega (arith, none)),
        apart x e ys each.1,
      )

      first : (o : Option Instance) → loaded_instance infos image m ≡ o
          → HaveOwnNumbers (instances_from infos (suc image) ms)
          → HaveOwnNumbers (option_to_list o ++ instances_from infos (suc image) ms)
      first None e rest = rest
      first (Some x) e rest = (apart x e (instances_from infos (suc image) ms) (all_stand (suc image) ms), rest)

  -- the instance of an image is the one of its number
  one_from : (ms : List Module) → OwnNumbers ms → (b : ℕ) (x : Instance)
      → loaded_instance infos (0 + b) (get_or ms b no_module) ≡ Some x
      → (ys : List Instance) → Each (StandsAt 0 ms) ys → AreOne x ys
  one_from ms own b x e [] each = tt
  one_from ms own b x e (y ∷ ys) each = (
    (λ same.
        let place = same_place 0 ms own each.0.0 b y x each.0.1 e same in
        let both : Some y ≡ Some x = sym each.0.1
        ∙ (ap (λ (a : ℕ). loaded_instance infos (0 + a) (get_or ms a no_module)) place ∙ e) in
        let h = both in cc),
    one_from ms own b x e ys each.1,
  )

module _ {B : Type 0} (l : Loads B) (seen : List Event) (legal : IsLegal l.infos l.last_offset seen) where
  pub numbers_own : HaveOwnNumbers (instances l seen)
  unfolding instances_in
  numbers_own = own_from l.infos 0 (past l.infos l.last_offset seen).modules
      (λ a b ne ta tb e. (own_numbers l.infos l.last_offset seen legal a b ne ta tb).0 e)

  pub image_one : (image : ℕ) (x : Instance) → instance_at l seen image ≡ Some x → AreOne x (instances l seen)
  unfolding instances_in instance_at
  image_one image x e =
      one_from l.infos (past l.infos l.last_offset seen).modules
      (λ a b ne ta tb s. (own_numbers l.infos l.last_offset seen legal a b ne ta tb).0 s) image x
      (ap (λ (i : ℕ). loaded_instance l.infos i (get_or (past l.infos l.last_offset seen).modules image no_module))
      (omega arith) ∙ e)
      (instances l seen) (all_stand l.infos 0 (past l.infos l.last_offset seen).modules)

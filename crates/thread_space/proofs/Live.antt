-- Live instances, and the images that they are of.
use Rattle.std.proofs.Common.{◌≡◌, ◌∙◌, ◌+◌, ◌<◌, ◌==◌, ◌&&◌, ◌||◌, ◌++◌, ℕ, suc, Bool, true, false, List, [], ◌∷◌}
use Rattle.std.proofs.Common.{length, Option, Some, None, refl, sym, ap, subst, arith, inl, inr}
use Rattle.std.specs.Prelude.{if◌then◌else◌, option_to_list, slice_index_or, take, All}
use Rattle.std.specs.List.{find, flat_map, list_any}
use Rattle.std.proofs.lemmas.Bool.{and_from, both_ways, cases_Bool, cases_eq, cases_lt, eq-eqb, false≢true}
use Rattle.std.proofs.lemmas.List.{get_or_past}
use Rattle.std.proofs.lemmas.List.Elements.{All-append, All-cons, All-head, All-nil, All-tail}
use Rattle.std.proofs.lemmas.List.Folds.{list_any_at}
use Rattle.std.proofs.lemmas.Option.{cond_some, none-some, same_Some}
use Rattle.loaded_modules.specs.declared.instance.Instance.{Instance}
use Rattle.loaded_modules.specs.Images.{JobImages, infos, static_offset}
use Rattle.module_table.specs.declared.modules.ImageInfo.{ImageInfo}
use Rattle.module_table.specs.declared.modules.Module.{Module}
use Rattle.module_table.specs.Laws.{HaveOwnNumbers}
use Rattle.module_table.specs.Modules.{startup_end}
use Rattle.module_table.specs.Modules.{is_loaded, no_module}
use Rattle.module_table.specs.Past.{Past, module_of}
use Rattle.module_table.specs.PastLaws.{has_instance, image_of}
use Rattle.thread_blocks.specs.Instances.{instances_from, instances_in, loaded_instance}
use Rattle.thread_space.specs.Kept.{live_in}
use Rattle.thread_space.specs.Live.{IsLive}
use Rattle.thread_vector.specs.Vectors.{loaded_as}
use Rattle.thread_vector.proofs.Facts.{image_has, image_is}

-- ** of one image

-- it is the one that a loader knows
pub live_is : (m : JobImages) (p : Past) (x : Instance) → IsLive m p x
    → (is_loaded (module_of p x.image) ≡ true) × (loaded_as m p x.image ≡ x)
unfolding static_offset
live_is m p x live = cond_some (is_loaded (module_of p x.image)) (loaded_as m p x.image) x live

pub live_number : (m : JobImages) (p : Past) (x : Instance) → IsLive m p x → (module_of p x.image).instance ≡ x.number
live_number m p x live = ap (λ (y : Instance). y.number) (live_is m p x live).1

pub loaded_live : (m : JobImages) (p : Past) (image : ℕ) → is_loaded (module_of p image) ≡ true
    → IsLive m p (loaded_as m p image)
unfolding static_offset
loaded_live m p image loaded = rw loaded refl

-- the two ways to say which instance an image is loaded as
pub instance_is : (m : JobImages) (p : Past) (image : ℕ)
    → loaded_instance (infos m) image (module_of p image)
    ≡ (if is_loaded (module_of p image) then Some (loaded_as m p image) else None)
unfolding static_offset
instance_is m p image = refl

-- an instance of an image is live
pub found_live : (m : JobImages) (p : Past) (image : ℕ) (x : Instance)
    → loaded_instance (infos m) image (module_of p image) ≡ Some x → IsLive m p x × (x.image ≡ image)
unfolding static_offset
found_live m p image x found =
    let same : loaded_as m p image ≡ x = (cond_some (is_loaded (module_of p image)) (loaded_as m p image) x found).1 in
    let at : image ≡ x.image = ap (λ (y : Instance). y.image) same in
    (subst (λ j. loaded_instance (infos m) j (module_of p j) ≡ Some x) at found, sym at)

pub known_live : (m : JobImages) (p : Past) (image : ℕ) (x : Instance)
    → (if is_loaded (module_of p image) then Some (loaded_as m p image) else None) ≡ Some x
    → IsLive m p x × (x.image ≡ image)
known_live m p image x known = found_live m p image x (instance_is m p image ∙ known)

-- a live instance is known by its number
pub same_number : (m : JobImages) (p : Past) (x y : Instance) → HaveOwnNumbers p → IsLive m p x → IsLive m p y
    → y.number ≡ x.number → y ≡ x
same_number m p x y own one two same = elim (cases_eq y.image x.image) [
  | inl at ↦ same_Some y x (sym two ∙ ap (λ j. loaded_instance (infos m) j (module_of p j)) at ∙ one)
  | inr apart ↦ absurd ((own y.image x.image apart (live_is m p y two).0 (live_is m p x one).0).0
      (live_number m p y two ∙ same ∙ sym (live_number m p x one)))
]

pub live_image : (m : JobImages) (p : Past) (x : Instance) → HaveOwnNumbers p → IsLive m p x
    → image_of p x.number ≡ Some x.image
live_image m p x own live =
    subst (λ n. image_of p n ≡ Some x.image) (live_number m p x live) (image_is p x.image own (live_is m p x live).0)

-- ** all of them

from_live : (m : JobImages) (p : Past) (i : ℕ) (ms : List Module)
    → ((k : ℕ) → module_of p (i + k) ≡ slice_index_or ms k no_module)
    → All (IsLive m p) (instances_from (infos m) i ms)
from_live m p i [] is = All-nil (IsLive m p)
from_live m p i (n ∷ ms) is =
    All-append (IsLive m p) (option_to_list (loaded_instance (infos m) i n)) (instances_from (infos m) (suc i) ms)
    (by_option (loaded_instance (infos m) i n) refl)
    (from_live m p (suc i) ms (λ k. (let e : i + suc k ≡ suc i + k = omega arith in rw e at (is (suc k)))))
  where
    here : module_of p i ≡ n
    here = let e : i + 0 ≡ i = omega arith in rw e at (is 0)

    by_option : (o : Option Instance) → loaded_instance (infos m) i n ≡ o → All (IsLive m p) (option_to_list o)
    by_option None e = All-nil (IsLive m p)
    by_option (Some x) e =
        All-cons (IsLive m p) x [] (found_live m p i x (ap (λ n. loaded_instance (infos m) i n) here ∙ e)).0
        (All-nil (IsLive m p))

pub all_live : (m : JobImages) (p : Past) → All (IsLive m p) (live_in m p)
unfolding instances_in
all_live m p = from_live m p 0 p.modules (λ k. (let e : 0 + k ≡ k = omega arith in rw e refl))

-- what is found among them
found_of : (P : Instance → Type 0) (t : Instance → Bool) (xs : List Instance) (x : Instance) → All P xs
    → find t xs ≡ Some x → P x
found_of P t [] x all found = absurd (none-some x found)
found_of P t (y ∷ xs) x all found = elim (cases_Bool (t y)) [
  | inl passes ↦ subst P (same_Some y x (sym (rw passes refl) ∙ found)) (All-head P y xs all)
  | inr fails ↦ found_of P t xs x (All-tail P y xs all) (sym (rw fails refl) ∙ found)
]

pub among_live : (m : JobImages) (p : Past) (t : Instance → Bool) (x : Instance) → find t (live_in m p) ≡ Some x
    → IsLive m p x
among_live m p t x found = found_of (IsLive m p) t (live_in m p) x (all_live m p) found

-- the same is made of each
pub each_same : {X Y : Type 0} (P : X → Type 0) (f g : X → List Y) (xs : List X) → All P xs
    → ((x : X) → P x → f x ≡ g x)
    → flat_map f xs ≡ flat_map g xs
each_same P f g [] all same = refl
each_same P f g (x ∷ xs) all same =
    rw (same x (All-head P x xs all), each_same P f g xs (All-tail P x xs all) same) refl

-- ** by their numbers

any_from : (xs : List ImageInfo) (number i : ℕ) (ms : List Module)
    → list_any (λ (x : Instance). x.number == number) (instances_from xs i ms) ≡ list_any (has_instance number) ms
any_from xs number i [] = refl
any_from xs number i (m ∷ ms) =
    let rest = any_from xs number (suc i) ms in
    elim (is_loaded m) as (λ b. list_any (λ (x : Instance). x.number == number)
    (option_to_list (if b then Some
    (record {
      image = i;
      number = m.instance;
      id = m.id;
      offset = if m.info.late then m.offset else Some (startup_end (take i xs) 0);
    }) else None)
    ++ instances_from xs (suc i) ms)
    ≡ ((b && (m.instance == number)) || list_any (has_instance number) ms)) [
      | true ↦ ap (λ b. (m.instance == number) || b) rest
      | false ↦ rest
    ]

any_live : (m : JobImages) (p : Past) (number : ℕ)
    → list_any (λ (x : Instance). x.number == number) (live_in m p) ≡ list_any (has_instance number) p.modules
unfolding instances_in
any_live m p number = any_from (infos m) number 0 p.modules

-- an image that is loaded has a number that images have
within : (p : Past) (image : ℕ) → is_loaded (module_of p image) ≡ true → image < length p.modules
within p image loaded = elim (cases_lt image (length p.modules)) [
  | inl l ↦ l
  | inr past ↦ absurd (false≢true (sym (ap is_loaded (get_or_past p.modules image no_module past)) ∙ loaded))
]

image_any : (p : Past) (number image : ℕ) → is_loaded (module_of p image) ≡ true → (module_of p image).instance ≡ number
    → list_any (has_instance number) p.modules ≡ true
image_any p number image loaded is =
    list_any_at (has_instance number) p.modules image no_module (within p image loaded)
    (and_from (is_loaded (module_of p image)) ((module_of p image).instance == number) loaded
    (eq-eqb (module_of p image).instance number is))

pub live_any : (m : JobImages) (p : Past) (x : Instance) → IsLive m p x
    → list_any (λ (y : Instance). y.number == x.number) (live_in m p) ≡ true
live_any m p x live =
    any_live m p x.number ∙ image_any p x.number x.image (live_is m p x live).0 (live_number m p x live)

pub none_live : (m : JobImages) (p : Past) (number : ℕ)
    → list_any (λ (x : Instance). x.number == number) (live_in m p) ≡ false → image_of p number ≡ None
none_live m p number none = by_image (image_of p number) refl
  where
    by_image : (o : Option ℕ) → image_of p number ≡ o → o ≡ None
    by_image None e = refl
    by_image (Some image) e =
        let has = image_has p number image e in
        absurd (both_ways _ none (any_live m p number ∙ image_any p number image has.1 has.2))

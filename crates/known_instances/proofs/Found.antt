-- What is found among the live instances stands for a loaded image.
use Rattle.std.proofs.Common.{◌≡◌, ◌∙◌, ◌+◌, ℕ, zero, suc, Bool, true, false, List, [], ◌∷◌, ◌++◌, get_or, Option, Some}
use Rattle.std.proofs.Common.{None, refl, sym, ap, subst, inl, inr, arith}
use Rattle.std.specs.Prelude.{is_some, if◌then◌else◌, take, option_to_list}
use Rattle.std.specs.List.{find}
use Rattle.std.proofs.lemmas.Bool.{cases_Bool, both_ways}
use Rattle.loaded_modules.specs.declared.instance.Instance.{Instance}
use Rattle.module_table.specs.declared.modules.ImageInfo.{ImageInfo}
use Rattle.module_table.specs.declared.modules.Module.{Module}
use Rattle.module_table.specs.Modules.{startup_end}
use Rattle.module_table.specs.Modules.{is_loaded, no_module}
use Rattle.module_table.specs.Past.{module_of}
use Rattle.thread_blocks.specs.Instances.{Loads, left_by, loaded_instance, instances_from}
use Rattle.module_table.specs.declared.events.Event.{Event}

-- the module of an image where the events were seen
abbrev pub module_at : Loads ℕ → List Event → ℕ → Module
module_at q seen image = module_of (left_by q seen) image

-- the instance that a loaded module stands for
abbrev pub instance_for : List ImageInfo → ℕ → Module → Instance
instance_for infos image m = record {
  image = image;
  number = m.instance;
  id = m.id;
  offset = if m.info.late then m.offset else Some (startup_end (take image infos) 0);
}

-- a module is loaded, and stands for this instance
pub record IsLoadedAs (infos : List ImageInfo) (image : ℕ) (m : Module) (x : Instance) : Type 0 where
  pub loaded : is_loaded m ≡ true
  pub is : instance_for infos image m ≡ x

pub loaded_as : (infos : List ImageInfo) (image : ℕ) (m : Module) (x : Instance)
    → loaded_instance infos image m ≡ Some x
    → IsLoadedAs infos image m x
loaded_as infos image m x e = elim (cases_Bool (is_loaded m)) [
  | inl t ↦ let same : Some (instance_for infos image m) ≡ Some x = rw t at e in
      record { loaded = t; is = let s = same in cc }
  | inr f ↦ let none : None ≡ Some x = rw f at e in cc
]

pub loaded_is : (infos : List ImageInfo) (image : ℕ) (m : Module) → is_loaded m ≡ true
    → loaded_instance infos image m ≡ Some (instance_for infos image m)
loaded_is infos image m t = rw t refl

-- in a list of modules, from an image on: which of them stands for an instance that passes a test
pub record FoundAt (infos : List ImageInfo) (image : ℕ) (ms : List Module) (test : Instance → Bool)
    (x : Instance) : Type 0 where
  pub at : ℕ
  pub is : loaded_instance infos (image + at) (get_or ms at no_module) ≡ Some x
  pub passes : test x ≡ true

-- the first of the list, or one of the others
first_or : (infos : List ImageInfo) (image : ℕ) (m : Module) (ms : List Module) (test : Instance → Bool) (x : Instance)
    (o : Option Instance) → loaded_instance infos image m ≡ o
    → (find test (instances_from infos (suc image) ms) ≡ Some x → FoundAt infos (suc image) ms test x)
    → find test (option_to_list o ++ instances_from infos (suc image) ms) ≡ Some x → FoundAt infos image (m ∷ ms) test x
first_or infos image m ms test x None e rest f =
    let r = rest f in
    record {
      at = suc r.at;
      is = ap (λ (i : ℕ). loaded_instance infos i (get_or ms r.at no_module)) (omega arith)
          ∙ r.is;
      passes = r.passes;
    }
first_or infos image m ms test x (Some y) e rest f = elim (cases_Bool (test y)) [
  | inl t ↦
      let here : Some y ≡ Some x = rw t at f in
      let same : y ≡ x = let h = here in cc in
      record {
        at = 0;
        is = ap (λ (i : ℕ). loaded_instance infos i m) (omega arith) ∙ (e ∙ here);
        passes =
            subst (λ (z : Instance). test z ≡ true) same t;
      }
  | inr n ↦
      let r = rest (rw n at f) in
      record {
        at = suc r.at;
        is = ap (λ (i : ℕ). loaded_instance infos i (get_or ms r.at no_module)) (omega arith)
            ∙ r.is;
        passes = r.passes;
      }
]

-- what is found is the instance of one of the modules
pub found_at : (infos : List ImageInfo) (image : ℕ) (ms : List Module) (test : Instance → Bool) (x : Instance)
    → find test (instances_from infos image ms) ≡ Some x → FoundAt infos image ms test x
found_at infos image [] test x e = cc
found_at infos image (m ∷ ms) test x e =
    first_or infos image m ms test x (loaded_instance infos image m) refl
    (λ f. found_at infos (suc image) ms test x f) e

-- and where one passes, something is found
found_some : (infos : List ImageInfo) (image : ℕ) (ms : List Module) (test : Instance → Bool) (a : ℕ) (x : Instance)
    → loaded_instance infos (image + a) (get_or ms a no_module) ≡ Some x → test x ≡ true
    → is_some (find test (instances_from infos image ms)) ≡ true
found_some infos image [] test a x e t = cc
found_some infos image (m ∷ ms) test zero x e t =
    let here : loaded_instance infos image m ≡ Some x = ap (λ (i : ℕ). loaded_instance infos i m) (omega arith) ∙ e in
    rw (here, t) refl
found_some infos image (m ∷ ms) test (suc a) x e t =
    let rest = found_some infos (suc image) ms test a x
    (ap (λ (i : ℕ). loaded_instance infos i (get_or ms a no_module)) (omega arith) ∙ e) t in
    elim (loaded_instance infos image m) as
    (λ o. is_some (find test (option_to_list o ++ instances_from infos (suc image) ms)) ≡ true) [
      | None ↦ rest
      | Some y ↦ elim (test y) as (λ b. is_some
          (if b then Some y else find test (instances_from infos (suc image) ms)) ≡ true) [ true ↦ refl | false ↦ rest ]
    ]

-- so the only one that passes is found
pub found_is : (infos : List ImageInfo) (ms : List Module) (test : Instance → Bool) (a : ℕ) (x : Instance)
    → loaded_instance infos a (get_or ms a no_module) ≡ Some x → test x ≡ true
    → ((b : ℕ) (y : Instance) → loaded_instance infos b (get_or ms b no_module) ≡ Some y → test y ≡ true → b ≡ a)
    → find test (instances_from infos 0 ms) ≡ Some x
found_is infos ms test a x e t only = by_found (find test (instances_from infos 0 ms)) refl
  where
    zero-plus : (b : ℕ) → 0 + b ≡ b
    zero-plus b = omega arith

    by_found : (o : Option Instance) → find test (instances_from infos 0 ms) ≡ o → o ≡ Some x
    by_found None f =
        let some = found_some infos 0 ms test a x
        (ap (λ (i : ℕ). loaded_instance infos i (get_or ms a no_module)) (zero-plus a) ∙ e) t in
        let none : is_some (find test (instances_from infos 0 ms)) ≡ false = rw f refl in
        absurd (both_ways _ none some)
    by_found (Some y) f =
        let r = found_at infos 0 ms test y f in
        let there : loaded_instance infos r.at (get_or ms r.at no_module) ≡ Some y =
        ap (λ (i : ℕ). loaded_instance infos i (get_or ms r.at no_module)) (sym (zero-plus r.at)) ∙ r.is in
        let same : r.at ≡ a = only r.at y there r.passes in
        sym there ∙ (ap (λ (i : ℕ). loaded_instance infos i (get_or ms i no_module)) same ∙ e)

-- The live instances, image by image, and their numbers.
use Rattle.std.proofs.Common.{◌≡◌, ◌≢◌, ◌∙◌, ◌+◌, ◌≤◌, ◌==◌, ◌++◌, ℕ, zero, suc, true, false, List, [], ◌∷◌, length}
use Rattle.std.proofs.Common.{drop, Option, Some, None, refl, sym, ap, subst, inl, inr, arith, add-one}
use Rattle.std.specs.Prelude.{option_to_list, slice_index_or, take, if◌then◌else◌}
use Rattle.std.specs.List.{All}
use Rattle.std.proofs.Math.Seq.{drop-cons}
use Rattle.std.proofs.lemmas.Bool.{cases_Bool, cases_lt, eqb-true}
use Rattle.std.proofs.lemmas.List.{append_assoc, append-nil, drop_all, get_or_past}
use Rattle.std.proofs.lemmas.List.Elements.{All-append, All-cons, All-nil}
use Rattle.std.proofs.lemmas.List.Kept.{AllPairs-cons}
use Rattle.std.proofs.lemmas.Option.{cond_some}
use Rattle.link_needs.specs.Linking.{Linking}
use Rattle.loaded_modules.specs.declared.instance.Instance.{Instance}
use Rattle.module_table.specs.declared.modules.ImageInfo.{ImageInfo}
use Rattle.module_table.specs.declared.modules.Module.{Module}
use Rattle.module_table.specs.Modules.{startup_end}
use Rattle.module_table.specs.Modules.{is_loaded, no_module}
use Rattle.module_table.specs.Past.{Past, module_of}
use Rattle.thread_blocks.specs.Instances.{instances_from, instances_in, loaded_instance}
use Rattle.job_check.specs.Histories.{IsLeftBy, infos_of}
use Rattle.marked_memory.specs.Spaces.{HaveOwnNumbers}
use Rattle.job_check.proofs.Histories.{few_modules, own_of}

-- ** image by image

module _ (infos : List ImageInfo) (p : Past) where
  -- those of the images from a number on
  abbrev pub from_image : ℕ → List Instance
  from_image i = instances_from infos i (drop i p.modules)

  pub all_from : instances_in infos p ≡ from_image 0
  unfolding instances_in
  all_from = refl

  from_next : (i : ℕ) → from_image i ≡ option_to_list (loaded_instance infos i (module_of p i)) ++ from_image (i + 1)
  from_next i = elim (cases_lt i (length p.modules)) [
    | inl within ↦ rw (drop-cons p.modules i no_module, add-one) refl
    | inr past ↦ rw (
      drop_all i p.modules past,
      drop_all (i + 1) p.modules (omega (arith, past)),
      get_or_past p.modules i no_module past,
    ) refl
  ]

  pub listed_one : (i : ℕ) (items : List Instance) (x : Instance) → instances_in infos p ≡ items ++ from_image i
      → loaded_instance infos i (module_of p i) ≡ Some x
      → instances_in infos p ≡ (items ++ x ∷ []) ++ from_image (i + 1)
  listed_one i items x so_far is =
      so_far ∙ ap (λ rest. items ++ rest) (from_next i ∙ ap (λ o. option_to_list o ++ from_image (i + 1)) is)
      ∙ sym (append_assoc items (x ∷ []) (from_image (i + 1)))

  pub listed_none : (i : ℕ) (items : List Instance) → instances_in infos p ≡ items ++ from_image i
      → loaded_instance infos i (module_of p i) ≡ None → instances_in infos p ≡ items ++ from_image (i + 1)
  listed_none i items so_far is =
      so_far ∙ ap (λ rest. items ++ rest) (from_next i ∙ ap (λ o. option_to_list o ++ from_image (i + 1)) is)

pub listed_all : (ls : List Linking) (p : Past) (i : ℕ) (items : List Instance) → IsLeftBy ls p
    → instances_in (infos_of ls) p ≡ items ++ from_image (infos_of ls) p i → 65 ≤ i
    → items ≡ instances_in (infos_of ls) p
listed_all ls p i items left so_far past =
    let long : length p.modules ≤ i = omega (arith, few_modules ls p left, past) in
    sym (so_far ∙ rw (drop_all i p.modules long) (append-nil items))

-- ** their numbers

-- no two of these modules are loaded as one instance
abbrev OwnIn : List Module → Type 0
OwnIn ms = (a b : ℕ) → a ≢ b → is_loaded (slice_index_or ms a no_module) ≡ true
    → is_loaded (slice_index_or ms b no_module) ≡ true
    → (slice_index_or ms a no_module).instance ≢ (slice_index_or ms b no_module).instance

differs : (a b : ℕ) → a ≢ b → (a == b) ≡ false
differs a b apart = elim (cases_Bool (a == b)) [
  | inl same ↦ absurd (apart (eqb-true a b same))
  | inr other ↦ other
]

module _ (infos : List ImageInfo) where
  as_loaded : ℕ → Module → Instance
  as_loaded i m = record {
    image = i;
    number = m.instance;
    id = m.id;
    offset = if m.info.late then m.offset else Some (startup_end (take i infos) 0);
  }

  loaded_is : (i : ℕ) (m : Module) (x : Instance) → loaded_instance infos i m ≡ Some x
      → (is_loaded m ≡ true) × (m.instance ≡ x.number)
  unfolding as_loaded
  loaded_is i m x is =
      let parts = cond_some (is_loaded m) (as_loaded i m) x is in
      (parts.0, ap (λ (y : Instance). y.number) parts.1)

  all_numbers : (P : ℕ → Type 0) (i : ℕ) (ms : List Module)
      → ((k : ℕ) → is_loaded (slice_index_or ms k no_module) ≡ true → P (slice_index_or ms k no_module).instance)
      → All (λ (x : Instance). P x.number) (instances_from infos i ms)
  all_numbers P i [] each = All-nil (λ (x : Instance). P x.number)
  all_numbers P i (m ∷ ms) each =
      All-append (λ (x : Instance). P x.number) (option_to_list (loaded_instance infos i m))
      (instances_from infos (suc i) ms)
      (here (loaded_instance infos i m) refl) (all_numbers P (suc i) ms (λ k. each (suc k)))
    where
      here : (o : Option Instance) → loaded_instance infos i m ≡ o
          → All (λ (x : Instance). P x.number) (option_to_list o)
      here None is = All-nil (λ (x : Instance). P x.number)
      here (Some x) is =
          let found = loaded_is i m x is in
          All-cons (λ (x : Instance). P x.number) x [] (subst P found.1 (each zero found.0))
          (All-nil (λ (x : Instance). P x.number))

  apart_with : (i : ℕ) (m : Module) (ms : List Module) (o : Option Instance) → loaded_instance infos i m ≡ o
      → OwnIn (m ∷ ms)
      → HaveOwnNumbers (instances_from infos (suc i) ms)
      → HaveOwnNumbers (option_to_list o ++ instances_from infos (suc i) ms)
  apart_with i m ms None is own rest = rest
  apart_with i m ms (Some x) is own rest =
      let found = loaded_is i m x is in
      AllPairs-cons (λ (x y : Instance). (x.number == y.number) ≡ false) x (instances_from infos (suc i) ms)
      (all_numbers (λ n. (x.number == n) ≡ false) (suc i) ms
      (λ k loaded. differs x.number (slice_index_or ms k no_module).instance
      (λ same. own zero (suc k) (λ e. cc) found.0 loaded (found.1 ∙ same)))) rest

  apart_from : (i : ℕ) (ms : List Module) → OwnIn ms → HaveOwnNumbers (instances_from infos i ms)
  apart_from i [] own = λ a b d less within. absurd (omega arith)
  apart_from i (m ∷ ms) own =
      apart_with i m ms (loaded_instance infos i m) refl own
      (apart_from (suc i) ms (λ a b ne. own (suc a) (suc b) (λ e. ne (omega (arith, e)))))

pub live_apart : (ls : List Linking) (p : Past) → IsLeftBy ls p → HaveOwnNumbers (instances_in (infos_of ls) p)
unfolding instances_in
live_apart ls p left =
    let own = own_of ls p left in
    apart_from (infos_of ls) 0 p.modules (λ a b ne one two. (own a b ne one two).0)

-- The live instance of an image is among the live instances, and so it is tied.
use Rattle.std.proofs.Common.{◌≡◌, ℕ, zero, suc, ◌+◌, List, [], ◌∷◌, ◌++◌, All, Option, Some, None, sym, subst, arith}
use Rattle.std.specs.Prelude.{option_to_list, slice_index_or}
use Rattle.std.proofs.lemmas.List.Elements.{All-head, All-tail}
use Rattle.loaded_modules.specs.declared.instance.Instance.{Instance}
use Rattle.module_table.specs.declared.events.Event.{Event}
use Rattle.module_table.specs.declared.modules.ImageInfo.{ImageInfo}
use Rattle.module_table.specs.declared.modules.Module.{Module}
use Rattle.module_table.specs.Modules.{no_module}
use Rattle.thread_blocks.specs.Instances.{Loads, instance_at, instances_from, instances_in, left_by, loaded_instance}
use Rattle.thread_blocks.specs.Turns.{IsFront}
use Rattle.whole_meaning.specs.Meanings.{Meaning}
use Rattle.tied_meaning.specs.Numbers.{Setting}
use Rattle.tied_meaning.specs.Ties.{AreTied, IsTied}

module _ (infos : List ImageInfo) (P : Instance → Type 0) where
  first_has : (o : Option Instance) (rest : List Instance) (x : Instance) → o ≡ Some x
      → All P (option_to_list o ++ rest) → P x
  first_has None rest x e all = absurd cc
  first_has (Some y) rest x e all = let same : y ≡ x = cc in subst P same (All-head P y rest all)

  rest_has : (o : Option Instance) (rest : List Instance) → All P (option_to_list o ++ rest) → All P rest
  rest_has None rest all = all
  rest_has (Some y) rest all = All-tail P y rest all

  -- what all instances have that modules from this one on stand for, that of module i has
  live_has : (ms : List Module) (first i : ℕ) (x : Instance)
      → loaded_instance infos (first + i) (slice_index_or ms i no_module) ≡ Some x
      → All P (instances_from infos first ms) → P x
  live_has [] first zero x e all = absurd cc
  live_has [] first (suc i) x e all = absurd cc
  live_has (m ∷ ms) first zero x e all =
      let place : first + 0 ≡ first = omega arith in
      first_has (loaded_instance infos first m) (instances_from infos (suc first) ms) x
      (subst (λ (n : ℕ). loaded_instance infos n m ≡ Some x) place e) all
  live_has (m ∷ ms) first (suc i) x e all =
      let place : first + suc i ≡ suc first + i = omega arith in
      live_has ms (suc first) i x
      (subst (λ (n : ℕ). loaded_instance infos n (slice_index_or ms i no_module) ≡ Some x) place e)
      (rest_has (loaded_instance infos first m) (instances_from infos (suc first) ms) all)

pub tied_there : (g : Setting) (m : Meaning) (q : Loads ℕ) (history : List Event) → AreTied g m q history
    → (seen : List Event) → IsFront seen history → (image : ℕ) (x : Instance) → instance_at q seen image ≡ Some x
    → IsTied g m q x
unfolding instance_at instances_in
tied_there g m q history tied seen front image x e =
    let place : 0 + image ≡ image = omega arith in
    let modules : List Module = (left_by q seen).modules in
    live_has q.infos (IsTied g m q) modules 0 image x
    (subst (λ (n : ℕ). loaded_instance q.infos n (slice_index_or modules image no_module) ≡ Some x) (sym place) e)
    (tied.each seen front)

-- Live instances: each is tied, and two with places in common are one.
use Rattle.std.proofs.Common.{if◌then◌else◌, ◌≡◌, ◌==◌, ℕ, zero, suc, Bool, true, false, List, [], ◌∷◌, All, Some, refl}
use Rattle.std.proofs.Common.{ap, subst, arith}
use Rattle.std.specs.List.{find}
use Rattle.std.proofs.lemmas.Bool.{eqb-true}
use Rattle.loaded_modules.specs.declared.instance.Instance.{Instance}
use Rattle.module_table.specs.declared.events.Event.{Event}
use Rattle.thread_blocks.specs.Instances.{Loads, instances, numbered_instance}
use Rattle.thread_blocks.specs.Turns.{IsFront}
use Rattle.whole_meaning.specs.Meanings.{Meaning}
use Rattle.tied_meaning.specs.Numbers.{Setting}
use Rattle.tied_meaning.specs.Ties.{AreTied, IsTied}

-- what is found is one of the list, and passes the test
pub found_holds : (p : Instance → Bool) (P : Instance → Type 0) (xs : List Instance) (x : Instance) → All P xs
    → find p xs ≡ Some x → P x × (p x ≡ true)
found_holds p P [] x all e = absurd cc
found_holds p P (y ∷ xs) x all e =
    of_test (p y) refl e (λ f. found_holds p P xs x (λ k d below. all (suc k) d (omega (arith, below))) f)
  where
    of_test : (b : Bool) → p y ≡ b → (if b then Some y else find p xs) ≡ Some x
        → (find p xs ≡ Some x → P x × (p x ≡ true)) → P x × (p x ≡ true)
    of_test true test e rest =
        let same : y ≡ x = cc in
        subst (λ (z : Instance). P z × (p z ≡ true)) same (all zero y (omega arith), test)
    of_test false test e rest = rest e

pub one_owner : (g : Setting) (x y : Instance) → g.known x.number ≡ Some x → g.known y.number ≡ Some y
    → x.number ≡ y.number → x ≡ y
one_owner g x y e f same = let same_known : g.known x.number ≡ g.known y.number = ap g.known same in cc

pub tied_at : {g : Setting} {m : Meaning} {q : Loads ℕ} {history : List Event} → AreTied g m q history
    → (seen : List Event) → IsFront seen history → (n : ℕ) (x : Instance) → numbered_instance q seen n ≡ Some x
    → IsTied g m q x × (x.number ≡ n)
tied_at {g} {m} {q} tied seen front n x e =
    let h = found_holds (λ (y : Instance). y.number == n) (IsTied g m q) (instances q seen) x
    (tied.each seen front) e in
    (h.0, eqb-true x.number n h.1)

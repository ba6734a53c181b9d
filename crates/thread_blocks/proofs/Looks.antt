-- After a look a thread holds nothing of an instance that is gone.
use Rattle.std.proofs.Common.{◌≡◌, ◌==◌, ℕ, List, [], ◌∷◌, ◌++◌, Option, Some, None, Bool, true, false, if◌then◌else◌}
use Rattle.std.proofs.Common.{refl, sym, subst, ap, arith}
use Rattle.std.specs.Prelude.{is_some}
use Rattle.std.specs.List.{All, find, flat_map}
use Rattle.std.proofs.lemmas.Bool.Decides.{nat_tests}
use Rattle.std.proofs.lemmas.List.Elements.{All-nil, All-cons, All-append}
use Rattle.guest_machine.specs.Ranges.{Range}
use Rattle.loaded_modules.specs.declared.instance.Instance.{Instance}
use Rattle.module_table.specs.declared.events.Event.{Event}
use Rattle.thread_blocks.specs.Held.{Owned, Block, Data, block_with, data_with, block_after, data_after, looked_at}
use Rattle.thread_blocks.specs.Instances.{Loads, block_range, instances, numbered_instance}
use Rattle.thread_blocks.specs.JobStatements.{HoldsLive, is_held_live}

number_same : (m n : ℕ) → m ≡ n → (m == n) ≡ true
number_same m n e = grind (arith, nat_tests)

-- what is sought is found where it stands
found_behind : {X : Type 0} (p : X → Bool) (front : List X) (x : X) (rest : List X) → p x ≡ true
    → is_some (find p (front ++ x ∷ rest)) ≡ true
found_behind p [] x rest here = rw here refl
found_behind p (y ∷ front) x rest here =
    elim (p y) as (λ b. is_some (if b then Some y else find p (front ++ x ∷ rest)) ≡ true) [
      | true ↦ refl
      | false ↦ found_behind p front x rest here
    ]

append_one : {X : Type 0} (front : List X) (x : X) (rest : List X) → (front ++ x ∷ []) ++ rest ≡ front ++ x ∷ rest
append_one [] x rest = refl
append_one (y ∷ front) x rest = ap (λ ys. y ∷ ys) (append_one front x rest)

module _ (l : Loads ℕ) (thread : ℕ) (seen : List Event) where
  abbrev IsLive : Owned ℕ → Type 0
  IsLive y = is_held_live l seen y ≡ true

  block_live : (x : Instance) (bytes : Option (List ℕ)) → is_some (numbered_instance l seen x.number) ≡ true
      → All IsLive (block_with thread x bytes)
  block_live x None live = All-nil IsLive
  block_live x (Some bytes) live = All-cons IsLive
      (record { owner = record { kind = Block; instance = x.number }; range = block_range thread x bytes }) [] live
      (All-nil IsLive)

  data_live : (x : Instance) (range : Option (Range ℕ)) (bytes : Option (List ℕ))
      → is_some (numbered_instance l seen x.number) ≡ true → All IsLive (data_with x range bytes)
  data_live x None bytes live = All-nil IsLive
  data_live x (Some range) None live = All-nil IsLive
  data_live x (Some range) (Some bytes) live =
      All-cons IsLive (record
      { owner = record { kind = Data; instance = x.number }; range = record range { bytes = bytes } }) [] live
      (All-nil IsLive)

  -- what is made of each live instance
  all_live : (made : Instance → List (Owned ℕ))
      → ((x : Instance) → is_some (numbered_instance l seen x.number) ≡ true → All IsLive (made x))
      → (front rest : List Instance) → instances l seen ≡ front ++ rest → All IsLive (flat_map made rest)
  all_live made each front [] all = All-nil IsLive
  all_live made each front (x ∷ rest) all =
      All-append IsLive (made x) (flat_map made rest)
      (each x
      (let P : List Instance → Type 0 = λ ys. is_some (find (λ (y : Instance). y.number == x.number) ys) ≡ true in
      subst P (sym all) (found_behind (λ (y : Instance). y.number == x.number) front x rest
      (number_same x.number x.number refl))))
      (all_live made each (front ++ x ∷ []) rest
      (subst (λ ys. instances l seen ≡ ys) (sym (append_one front x rest)) all))

  -- all that is held after a look is of live instances
  pub look_live : (xs : List (Owned ℕ)) → All IsLive (looked_at l thread seen xs)
  unfolding looked_at
  look_live xs = All-append IsLive (flat_map (block_after l thread (λ x. is_some x.offset) xs) (instances l seen))
      (flat_map (data_after l (λ x. false) xs) (instances l seen))
      (all_live (block_after l thread (λ x. is_some x.offset) xs) (λ x live. block_live x _ live) []
      (instances l seen) refl)
      (all_live (data_after l (λ x. false) xs) (λ x live. data_live x (l.shared x) _ live) [] (instances l seen) refl)

pub looks_leave_live : HoldsLive
looks_leave_live l thread seen xs = look_live l thread seen xs

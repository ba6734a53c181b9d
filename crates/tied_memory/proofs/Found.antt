-- What is fixed of a live instance is found at its place, whatever the thread writes.
use Rattle.std.proofs.Common.{if◌then◌else◌, ◌≡◌, ◌∙◌, ◌^◌, ◌<◌, ◌≤◌, ◌++◌, ◌==◌, ℕ, zero, suc, Bool, true, false, List}
use Rattle.std.proofs.Common.{[], ◌∷◌, All, IfSome, length, Option, Some, None, refl, sym, ap, subst, arith}
use Rattle.std.specs.List.{find, flat_map}
use Rattle.std.specs.Option.{option_or}
use Rattle.std.proofs.lemmas.Bool.{eq-eqb}
use Rattle.address_map.specs.Map.{stack_start}
use Rattle.guest_arithmetic.specs.Plain.{plain_operations}
use Rattle.guest_operands.specs.declared.space.Access.{Access}
use Rattle.guest_machine.specs.Ranges.{Range, byte_in, holds}
use Rattle.loaded_modules.specs.declared.instance.Instance.{Instance}
use Rattle.module_table.specs.declared.events.Event.{Event}
use Rattle.thread_blocks.specs.Held.{Kind, Block, Data, Owner, owned}
use Rattle.thread_blocks.specs.Instances.{Loads, block_start, fixed_at, instances, numbered_instance}
use Rattle.thread_blocks.specs.MachineTurns.{pointer_word}
use Rattle.thread_blocks.specs.Spaces.{Space, ranges_of, stack_range}
use Rattle.whole_meaning.specs.Meanings.{Meaning}
use Rattle.tied_meaning.specs.Numbers.{Setting}
use Rattle.tied_meaning.specs.Ties.{AreTied, IsPlaceOf, IsTied}
use Rattle.tied_meaning.specs.Threads.{IsPlaced, IsRangeOf}
use Rattle.tied_memory.specs.Places.{AreInPlace}
use Rattle.tied_memory.proofs.Live.{one_owner}
use Rattle.tied_memory.proofs.Ranges.{below_range, found_behind, passed, same_holds}

-- a block begins above all that is fixed
start_high : (thread image number id : ℕ) (offset : Option ℕ) → 1 ≤ thread → IfSome offset (λ (o : ℕ). o < 2 ^ 28)
    → 2 ^ 40 ≤ block_start thread (record { image = image; number = number; id = id; offset = offset })
start_high thread image number id None low h = omega (arith, low)
start_high thread image number id (Some offset) low h = omega (arith, low, h)

range_start : (range whole : Range ℕ) → range ≡ record whole { bytes = range.bytes } → range.start ≡ whole.start
range_start range whole e = ap (λ (r : Range ℕ). r.start) e

-- data of an instance lie at places of it, where nothing is fixed
pub data_place : {g : Setting} {m : Meaning} {q : Loads ℕ} {y : Instance} → IsTied g m q y
    → (range whole : Range ℕ) → q.shared y ≡ Some whole → range ≡ record whole { bytes = range.bytes }
    → length range.bytes ≡ length whole.bytes → (place : ℕ) → holds range place ≡ true
    → IsPlaceOf y place × ((access : Access) → byte_in access (q.fixed y) place ≡ None)
data_place {g} {m} {q} {y} it range whole shared e f place held =
    let there = subst (λ (o : Option (Range ℕ)). IfSome o (λ (range : Range ℕ). (range.runnable ≡ false)
    × ((place : ℕ) → holds range place ≡ true
    → IsPlaceOf y place × ((access : Access) → byte_in access (q.fixed y) place ≡ None)))) shared it.data_there in
    there.1 place (same_holds range.start whole.start (length range.bytes) (length whole.bytes) place
    (range_start range whole e) f held)

module _ {g : Setting} {m : Meaning} {q : Loads ℕ} {history : List Event} {thread : ℕ} (tied : AreTied g m q history)
    (low : 1 ≤ thread) (x : Instance) (known : g.known x.number ≡ Some x) (access : Access) (place byte : ℕ)
    (there : byte_in access (q.fixed x) place ≡ Some byte) (at : IsPlaceOf x place) where
  -- ** what is written holds no place of what is fixed

  kind_apart : (kind : Kind) (range : Range ℕ) (n : ℕ) (y : Instance) → g.known n ≡ Some y
      → IsRangeOf q thread y kind range → holds range place ≡ false
  kind_apart Block range n y ky h =
      let it = tied.known n y ky in
      below_range range place (omega (
        arith,
        at.1.1,
        ap (λ (r : Range ℕ). r.start) h.0,
        start_high thread y.image y.number y.id y.offset low it.0.offset,
      ))
  kind_apart Data range n y ky h = of_test (holds range place) refl
    where
      of_test : (b : Bool) → holds range place ≡ b → holds range place ≡ false
      of_test false e = e
      of_test true e =
          let it = tied.known n y ky in
          let here = data_place it.0 range h.0 h.1.0 h.1.1.0 h.1.1.1 place e in
          let same : x ≡ y = one_owner g x y known it.0.known (sym at.0 ∙ here.0.0) in
          let none : byte_in access (q.fixed x) place ≡ None =
          subst (λ (z : Instance). byte_in access (q.fixed z) place ≡ None) (sym same) (here.1 access) in
          absurd cc

  own_passed : (owners : List Owner) (own more : List (Range ℕ)) → length owners ≡ length own
      → All (IsPlaced g q thread) (owned owners own)
      → byte_in access (own ++ more) place ≡ byte_in access more place
  own_passed [] [] more e all = refl
  own_passed [] (r ∷ rs) more e all = absurd (omega (arith, e))
  own_passed (o ∷ os) [] more e all = absurd (omega (arith, e))
  own_passed (o ∷ os) (r ∷ rs) more e all =
      let first = all zero (record { owner = o; range = r }) (omega arith) in
      passed access r (rs ++ more) place (kind_apart o.kind r o.instance first.0 first.1.0 first.1.1)
      ∙ own_passed os rs more (omega (arith, e)) (λ k d below. all (suc k) d (omega (arith, below)))

  -- ** of all that is fixed only the instance has the place

  live_found : (live : List Instance) → All (IsTied g m q) live
      → find (λ (y : Instance). y.number == x.number) live ≡ Some x
      → byte_in access (flat_map q.fixed live) place ≡ Some byte
  live_found [] all e = absurd cc
  live_found (y ∷ live) all e =
      let it = all zero y (omega arith) in
      found_behind access (q.fixed y) (flat_map q.fixed live) place
      ∙ of_test (y.number == x.number) refl it e
      (λ f. live_found live (λ k d below. all (suc k) d (omega (arith, below))) f)
    where
      of_found : (o : Option ℕ) → byte_in access (q.fixed y) place ≡ o → IsTied g m q y
          → (y.number ≡ x.number → ⊥) → o ≡ None
      of_found None e it other = refl
      of_found (Some b) e it other = absurd (other (sym (it.there access place b e).0 ∙ at.0))

      apart : (y.number == x.number) ≡ false → y.number ≡ x.number → ⊥
      apart e f = let yes = eq-eqb y.number x.number f in absurd cc

      of_test : (b : Bool) → (y.number == x.number) ≡ b → IsTied g m q y
          → (if b then Some y else find (λ (z : Instance). z.number == x.number) live) ≡ Some x
          → (find (λ (z : Instance). z.number == x.number) live ≡ Some x
          → byte_in access (flat_map q.fixed live) place ≡ Some byte)
          → option_or (byte_in access (q.fixed y) place) (byte_in access (flat_map q.fixed live) place) ≡ Some byte
      of_test true test it e rest =
          let same : y ≡ x = cc in
          rw (ap (λ (z : Instance). byte_in access (q.fixed z) place) same ∙ there) refl
      of_test false test it e rest =
          rw (of_found (byte_in access (q.fixed y) place) refl it (apart test), rest e) refl

  -- ** the ranges of a thread, from its stack on

  pub fixed_found : {owners : List Owner} {space : Space Event ℕ} → AreInPlace g q history thread owners space
      → numbered_instance q space.seen x.number ≡ Some x
      → byte_in access
      (ranges_of (stack_start thread) (λ seen. pointer_word plain_operations thread ∷ fixed_at q seen) space) place
      ≡ Some byte
  unfolding fixed_at
  fixed_found {owners} {space} sound live =
      passed access (stack_range (stack_start thread) space.stack)
      (space.own ++ (pointer_word plain_operations thread ∷ fixed_at q space.seen)) place
      (below_range (stack_range (stack_start thread) space.stack) place (omega (arith, at.1.1, low)))
      ∙ own_passed owners space.own
      (pointer_word plain_operations thread ∷ fixed_at q space.seen) sound.paired sound.placed
      ∙ passed access (pointer_word plain_operations thread) (fixed_at q space.seen) place
      (below_range (pointer_word plain_operations thread) place (omega (arith, at.1.1, low)))
      ∙ live_found (instances q space.seen) (tied.each space.seen sound.front) live

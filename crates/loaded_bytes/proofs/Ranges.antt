-- What is found at an address of a part of an instance: no part before it reaches the address, and what is there is the
-- part's.
use Rattle.std.proofs.Common.{◌≡◌, ◌+◌, ◌-◌, ◌<◌, ◌≤◌, ◌&&◌, ◌∙◌, ℕ, zero, suc, Bool, true, false, not, List, [], ◌∷◌}
use Rattle.std.proofs.Common.{Some, length, refl, sym, ap, subst, arith, if◌then◌else◌}
use Rattle.std.specs.Prelude.{nat_le, slice_get}
use Rattle.std.specs.List.{filter}
use Rattle.std.proofs.lemmas.Bool.{le-leb, le-ltb, lt-ltb}
use Rattle.std.proofs.lemmas.Option.{same_Some}
use Rattle.guest_operands.specs.declared.space.Access.{Access}
use Rattle.guest_operands.specs.Ranges.{Range, allows, byte_in, grants}
use Rattle.image_file.specs.Spelled.{Part, Spelled}
use Rattle.loaded_modules.specs.declared.instance.Instance.{Instance}
use Rattle.loaded_modules.specs.Images.{JobImages}
use Rattle.loaded_modules.specs.Loader.{bias, part_bytes}
use Rattle.relocated_parts.proofs.Fold.{left_long}
use Rattle.relocated_parts.specs.Laws.{end_of}
use Rattle.thread_blocks.specs.JobLoads.{instance_part, parts_from}

-- the ranges that no thread writes
abbrev pub still : List (Range ℕ) → List (Range ℕ)
still ranges = filter (λ (range : Range ℕ). not range.writable) ranges

module _ (m : JobImages) (image : Spelled) (x : Instance) (access : Access) (address : ℕ) where
  abbrev place : ℕ
  place = address + bias image.kind x.number

  -- a part that ends before is passed over
  passed : (n : ℕ) (q : Part) (more : List (Range ℕ)) → end_of q ≤ address
      → byte_in access (still (instance_part m image x n q ∷ more)) (address + bias image.kind x.number)
      ≡ byte_in access (still more) (address + bias image.kind x.number)
  passed n q more before =
      of_test (not (instance_part m image x n q).writable)
    where
      away : grants access (instance_part m image x n q) (address + bias image.kind x.number) ≡ false
      away =
          rw (le-ltb (address + bias image.kind x.number - (q.address + bias image.kind x.number))
          (length (part_bytes m image x q))
          (let long = left_long m image x q in omega (arith, long, before)))
          (no_other (allows access (instance_part m image x n q))
          (nat_le (q.address + bias image.kind x.number) (address + bias image.kind x.number)))
        where
          no_other : (a b : Bool) → (a && (b && false)) ≡ false
          no_other true true = refl
          no_other true false = refl
          no_other false b = refl

      of_test : (t : Bool)
          → byte_in access (if t then instance_part m image x n q ∷ still more else still more)
          (address + bias image.kind x.number)
          ≡ byte_in access (still more) (address + bias image.kind x.number)
      of_test true = rw away refl
      of_test false = refl

  module _ (part : Part) (low : part.address ≤ address) (high : address < end_of part) where
    here : (n : ℕ) (more : List (Range ℕ)) → allows access (instance_part m image x n part) ≡ true
        → (instance_part m image x n part).writable ≡ false
        → byte_in access (still (instance_part m image x n part ∷ more)) (address + bias image.kind x.number)
        ≡ slice_get (part_bytes m image x part) (address - part.address)
    here n more may not_written =
        let index : address + bias image.kind x.number - (part.address + bias image.kind x.number)
        ≡ address - part.address =
        omega (arith, low) in
        let long = left_long m image x part in
        ap
        (λ (ranges : List (Range ℕ)). byte_in access ranges (address + bias image.kind x.number))
        (of_test (instance_part m image x n part).writable not_written)
        ∙ rw (
          may,
          le-leb (part.address + bias image.kind x.number) (address + bias image.kind x.number) (omega (arith, low)),
          lt-ltb (address + bias image.kind x.number - (part.address + bias image.kind x.number))
              (length (part_bytes m image x part))
              (omega (arith, index, long, low, high)),
        )
        (ap (slice_get (part_bytes m image x part)) index)
      where
        of_test : (t : Bool) → t ≡ false
            → (if not t then instance_part m image x n part ∷ still more else still more)
            ≡ instance_part m image x n part ∷ still more
        of_test true e = cc
        of_test false e = refl

    -- the law of ranges
    pub found_in_part : (n number i : ℕ) (parts : List Part) → number ≡ n + i → slice_get parts i ≡ Some part
        → ((j : ℕ) (q : Part) → j < i → slice_get parts j ≡ Some q → end_of q ≤ address)
        → allows access (instance_part m image x number part) ≡ true
        → (instance_part m image x number part).writable ≡ false
        → byte_in access (still (parts_from m image x n parts)) (address + bias image.kind x.number)
        ≡ slice_get (part_bytes m image x part) (address - part.address)
    found_in_part n number i [] e at before may not_written = cc
    found_in_part n number zero (q ∷ parts) e at before may not_written =
        let same : q ≡ part = same_Some q part at in
        let first : n ≡ number = omega (arith, e) in
        ap (λ (p : Part). byte_in access (still (instance_part m image x n p ∷ parts_from m image x (suc n) parts))
        (address + bias image.kind x.number)) same
        ∙ here n (parts_from m image x (suc n) parts)
        (subst (λ k. allows access (instance_part m image x k part) ≡ true) (sym first) may)
        (subst (λ k. (instance_part m image x k part).writable ≡ false) (sym first) not_written)
    found_in_part n number (suc i) (q ∷ parts) e at before may not_written =
        passed n q (parts_from m image x (suc n) parts) (before 0 q (omega arith) refl)
        ∙ found_in_part (suc n) number i parts (omega (arith, e)) at
        (λ j r less there. before (suc j) r (omega (arith, less)) there) may not_written

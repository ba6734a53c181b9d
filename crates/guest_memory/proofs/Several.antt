-- Several bytes over ranges are what the accesses of ranges say.
use Rattle.std.proofs.Common.{◌≡◌, ℕ, zero, suc, Bool, true, false, List, ◌∷◌, Option, Some, None, Result, Ok, Err}
use Rattle.std.proofs.Common.{refl}
use Rattle.std.specs.Prelude.{ok_or, option_map, is_some, ◌&&◌}
use Rattle.guest_operands.specs.declared.space.Access.TheVariants.{Read, Write}
use Rattle.guest_arithmetic.specs.Values.{Operations}
use Rattle.guest_operands.specs.Access.{Refusal, Refused, both_reached, reached, next_place, bytes_at, all_write}
use Rattle.guest_operands.specs.Access.{load_of, store_of, put_all, bytes_from}
use Rattle.guest_operands.specs.Ranges.{AddressSpace, byte_in}
use Rattle.guest_operands.specs.RangeLaws.{range_accesses}
use Rattle.guest_memory.specs.Several.{before, bytes_in, all_writable}

reached-before : {B : Type 0} (byte : Option B) (bytes : Option (List B))
    → both_reached ◌∷◌ (ok_or byte Refused) (ok_or bytes Refused) ≡ ok_or (before byte bytes) Refused
reached-before None None = refl
reached-before None (Some bytes) = refl
reached-before (Some byte) None = refl
reached-before (Some byte) (Some bytes) = refl

reached-map : {A C : Type 0} (f : A → C) (o : Option A) → reached f (ok_or o Refused) ≡ ok_or (option_map f o) Refused
reached-map f None = refl
reached-map f (Some x) = refl

abbrev allowed : Bool → Result (Unit {0}) Refusal
allowed true = Ok tt
allowed false = Err Refused

reached-all : {B : Type 0} (byte : Option B) (rest : Bool)
    → both_reached (λ (a : Unit {0}) (b : Unit {0}). tt {0}) (reached (λ (b : B). tt {0}) (ok_or byte Refused))
    (allowed rest) ≡ allowed (is_some byte && rest)
reached-all None true = refl
reached-all None false = refl
reached-all (Some byte) true = refl
reached-all (Some byte) false = refl

module _ {W F B : Type 0} (ops : Operations W F B) (memory : AddressSpace B) where
  pub bytes_at-ranges : (size place : ℕ)
      → bytes_at (range_accesses ops) memory place size ≡ ok_or (bytes_in memory.ranges place size) Refused
  unfolding range_accesses
  bytes_at-ranges zero place = refl
  bytes_at-ranges (suc size) place =
      rw (bytes_at-ranges size (next_place place))
      (reached-before (byte_in Read memory.ranges place) (bytes_in memory.ranges (next_place place) size))

  pub all_write-ranges : (size place : ℕ)
      → all_write (range_accesses ops) memory place size ≡ allowed (all_writable memory.ranges place size)
  unfolding range_accesses
  all_write-ranges zero place = refl
  all_write-ranges (suc size) place =
      rw (all_write-ranges size (next_place place))
      (reached-all (byte_in Write memory.ranges place) (all_writable memory.ranges (next_place place) size))

  pub load_of_ranges : (place size : ℕ)
      → load_of ops (range_accesses ops) memory place size
      ≡ ok_or (option_map ops.joined (bytes_in memory.ranges place size)) Refused
  unfolding load_of
  load_of_ranges place size =
      rw (bytes_at-ranges size place) (reached-map ops.joined (bytes_in memory.ranges place size))

  pub store_of-not : (place size : ℕ) (word : W) → all_writable memory.ranges place size ≡ false
      → store_of ops (range_accesses ops) memory place size word ≡ Err Refused
  unfolding store_of
  store_of-not place size word not = rw (all_write-ranges size place, not) refl

  pub store_of-all : (place size : ℕ) (word : W) → all_writable memory.ranges place size ≡ true
      → store_of ops (range_accesses ops) memory place size word
      ≡ Ok (put_all (range_accesses ops) memory place (bytes_from ops word 0 size))
  unfolding store_of
  store_of-all place size word all = rw (all_write-ranges size place, all) refl

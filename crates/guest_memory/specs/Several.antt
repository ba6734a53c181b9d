-- Several consecutive bytes, over ranges.
use Rattle.std.specs.Prelude.{ℕ, zero, suc, ◌&&◌, Bool, true, List, [], ◌∷◌, Option, Some, None, is_some}
use Rattle.guest_operands.specs.declared.space.Access.TheVariants.{Read, Write}
use Rattle.guest_operands.specs.Access.{next_place}
use Rattle.guest_operands.specs.Ranges.{Range, byte_in}

-- a byte before others, if all are there
abbrev pub before : {B : Type 0} → Option B → Option (List B) → Option (List B)
before (Some byte) (Some bytes) = Some (byte ∷ bytes)
before (Some byte) None = None
before None bytes = None

module _ {B : Type 0} (ranges : List (Range B)) where
  -- the bytes from a place on, if each of them may be read
  abbrev pub bytes_in : ℕ → ℕ → Option (List B)
  bytes_in place zero = Some []
  bytes_in place (suc size) = before (byte_in Read ranges place) (bytes_in (next_place place) size)

  -- whether this many bytes may be written
  abbrev pub all_writable : ℕ → ℕ → Bool
  all_writable place zero = true
  all_writable place (suc size) = is_some (byte_in Write ranges place) && all_writable (next_place place) size

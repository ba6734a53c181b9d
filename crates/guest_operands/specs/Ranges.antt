-- A memory as two finite lists: ranges of bytes with their rights, and the places of offset fields.
use Rattle.std.specs.Prelude.{ℕ, ◌-◌, ◌&&◌, Bool, List, [], ◌∷◌, length, slice_get, slice_set, Option, None, nat_le}
use Rattle.std.specs.Prelude.{nat_lt, if◌then◌else◌}
use Rattle.guest_operands.specs.declared.space.Access.{Access}
use Rattle.guest_operands.specs.declared.space.Access.TheVariants.{Read, Write, Run}

-- bytes from a start on, and what may be done with each of them
pub record Range (B : Type 0) : Type 0 where
  pub start : ℕ
  pub bytes : List B
  pub readable : Bool
  pub writable : Bool
  pub runnable : Bool

-- where ranges overlap, the first one that allows the access decides
pub record AddressSpace (B : Type 0) : Type 0 where
  pub ranges : List (Range B)
  pub fields : List ℕ

abbrev pub allows : {B : Type 0} → Access → Range B → Bool
allows Read range = range.readable
allows Write range = range.writable
allows Run range = range.runnable

-- whether the byte at a place lies in the range
abbrev pub holds : {B : Type 0} → Range B → ℕ → Bool
holds range place = nat_le range.start place && nat_lt (place - range.start) (length range.bytes)

abbrev pub grants : {B : Type 0} → Access → Range B → ℕ → Bool
grants access range place = allows access range && holds range place

-- the byte at a place, if it allows the access
abbrev pub byte_in : {B : Type 0} → Access → List (Range B) → ℕ → Option B
byte_in access [] place = None
byte_in access (range ∷ ranges) place =
    if grants access range place
    then slice_get range.bytes (place - range.start)
    else byte_in access ranges place

-- the ranges after a write of the byte at a place
abbrev pub with_byte : {B : Type 0} → List (Range B) → ℕ → B → List (Range B)
with_byte [] place byte = []
with_byte (range ∷ ranges) place byte =
    if grants Write range place
    then record range { bytes = slice_set range.bytes (place - range.start) byte } ∷ ranges
    else range ∷ with_byte ranges place byte

-- The result and the flags of each computation as properties of whole numbers (Intel's manual, volume 2: ADD, SUB, CMP,
-- AND, OR, XOR, TEST, IMUL, SAL/SAR/SHL/SHR; the flags by volume 1, section 3.4.3.1). They watch `compute_effect`,
-- `product_effect` and `shift_effect` (guest_arithmetic), and share no name with them.
use Rattle.std.specs.Prelude.{◌≡◌, ◌⊎◌, ◌↔◌, ℕ, ◌+◌, ◌*◌, ◌/◌, ◌%◌, ◌^◌, ◌<◌, ◌≤◌, zero, suc, ℤ, pos, ◌+ℤ◌, ◌-ℤ◌, ◌*ℤ◌}
use Rattle.std.specs.Prelude.{◌<ℤ◌}
use Rattle.amd64_subset.specs.declared.instr.Arithmetic.{Arithmetic}
use Rattle.amd64_subset.specs.declared.instr.Arithmetic.TheVariants.{Add, Or, And, Sub, Xor, Compare}
use Rattle.amd64_subset.specs.declared.instr.Shift.{Shift}
use Rattle.amd64_subset.specs.declared.instr.Shift.TheVariants.{Left, Right, RightSigned}
use Rattle.amd64_subset.specs.declared.instr.Width.{Width}
use Rattle.guest_arithmetic.specs.declared.effect.Effect.{Effect}
use Rattle.instruction_laws.specs.Words.{words, IsOutside, IsSigned, IsCut, IsSet, Shows, IsUndefined, IsLeftAlone}

-- ZF: the result is 0. SF: it is negative.
pub record TellsOfResult (width : Width) (effect : Effect) : Type 0 where
  pub result : ℤ
  pub signed : IsSigned width effect.number result
  pub zero : Shows effect.changes.zero (effect.number ≡ 0)
  pub sign : Shows effect.changes.sign (result <ℤ pos 0)

-- CF: as unsigned integers, the sum takes more bits than there are. OF: as signed integers, x and y.
pub record IsSum (width : Width) (a b : ℕ) (x y : ℤ) (effect : Effect) : Type 0 where
  pub number : IsCut width effect.number (pos a +ℤ pos b)
  pub tells : TellsOfResult width effect
  pub carry : Shows effect.changes.carry (words width ≤ a + b)
  pub overflow : Shows effect.changes.overflow (IsOutside width (x +ℤ y))

-- CF: a borrow, since the difference is below 0. OF: as signed integers.
pub record IsDifference (width : Width) (a b : ℕ) (x y : ℤ) (effect : Effect) : Type 0 where
  pub number : IsCut width effect.number (pos a -ℤ pos b)
  pub tells : TellsOfResult width effect
  pub carry : Shows effect.changes.carry ((pos a -ℤ pos b) <ℤ pos 0)
  pub overflow : Shows effect.changes.overflow (IsOutside width (x -ℤ y))

-- a bit of the result by the bits of the operands: both, one at least, exactly one
abbrev pub Both : Type 0 → Type 0 → Type 0
Both A B = A × B

abbrev pub Either : Type 0 → Type 0 → Type 0
Either A B = A ⊎ B

abbrev pub One : Type 0 → Type 0 → Type 0
One A B = (A × (B → ⊥)) ⊎ ((A → ⊥) × B)

-- bit for bit; CF and OF are cleared
pub record IsBitwise (bit : Type 0 → Type 0 → Type 0) (width : Width) (a b : ℕ) (effect : Effect) : Type 0 where
  pub bits : (k : ℕ) → IsSet k effect.number ↔ bit (IsSet k a) (IsSet k b)
  pub tells : TellsOfResult width effect
  pub carry : Shows effect.changes.carry ⊥
  pub overflow : Shows effect.changes.overflow ⊥

-- of the words a and b, which are x and y as signed integers
abbrev pub Computes : Arithmetic → Width → ℕ → ℕ → ℤ → ℤ → Effect → Type 0
Computes Add width a b x y = IsSum width a b x y
Computes Or width a b x y = IsBitwise Either width a b
Computes And width a b x y = IsBitwise Both width a b
Computes Sub width a b x y = IsDifference width a b x y
Computes Xor width a b x y = IsBitwise One width a b
Computes Compare width a b x y = IsDifference width a b x y

-- the signed product, cut. CF and OF: it was cut. ZF and SF are undefined.
pub record IsProduct (width : Width) (x y : ℤ) (effect : Effect) : Type 0 where
  pub number : IsCut width effect.number (x *ℤ y)
  pub zero : IsUndefined effect.changes.zero
  pub sign : IsUndefined effect.changes.sign
  pub carry : Shows effect.changes.carry (IsOutside width (x *ℤ y))
  pub overflow : Shows effect.changes.overflow (IsOutside width (x *ℤ y))

-- ** shifts, by a count that is masked already

pub record IsUntouched (a : ℕ) (effect : Effect) : Type 0 where
  pub number : effect.number ≡ a
  pub zero : IsLeftAlone effect.changes.zero
  pub sign : IsLeftAlone effect.changes.sign
  pub carry : IsLeftAlone effect.changes.carry
  pub overflow : IsLeftAlone effect.changes.overflow

-- shl multiplies by 2^count. CF: the bit next to the result, of the product that is not cut. OF, if the count is 1:
-- twice x is no signed integer of the width.
pub record IsShiftedLeft (width : Width) (a : ℕ) (x : ℤ) (count : ℕ) (effect : Effect) : Type 0 where
  pub number : IsCut width effect.number (pos (a * 2 ^ count))
  pub tells : TellsOfResult width effect
  pub carry : Shows effect.changes.carry (a * 2 ^ count / words width % 2 ≡ 1)
  pub once : count ≡ 1 → Shows effect.changes.overflow (IsOutside width (x +ℤ x))
  pub more : 1 < count → IsUndefined effect.changes.overflow

-- shr divides by 2^count, as unsigned integers. CF: the rest is half of the divisor, or more. OF, if the count is 1:
-- x is negative.
pub record IsShiftedRight (width : Width) (a : ℕ) (x : ℤ) (count : ℕ) (effect : Effect) : Type 0 where
  pub rest : ℕ
  pub small : rest < 2 ^ count
  pub number : effect.number * 2 ^ count + rest ≡ a
  pub tells : TellsOfResult width effect
  pub carry : Shows effect.changes.carry (2 ^ count ≤ rest + rest)
  pub once : count ≡ 1 → Shows effect.changes.overflow (x <ℤ pos 0)
  pub more : 1 < count → IsUndefined effect.changes.overflow

-- sar divides as signed integers, toward the lesser one. OF, if the count is 1, is cleared.
pub record IsShiftedSigned (width : Width) (a : ℕ) (x : ℤ) (count : ℕ) (effect : Effect) : Type 0 where
  pub rest : ℕ
  pub small : rest < 2 ^ count
  pub tells : TellsOfResult width effect
  pub number : tells.result *ℤ pos (2 ^ count) +ℤ pos rest ≡ x
  pub carry : Shows effect.changes.carry (2 ^ count ≤ rest + rest)
  pub once : count ≡ 1 → Shows effect.changes.overflow ⊥
  pub more : 1 < count → IsUndefined effect.changes.overflow

-- a count of 0 does nothing
abbrev pub Shifts : Shift → Width → ℕ → ℤ → ℕ → Effect → Type 0
Shifts shift width a x zero = IsUntouched a
Shifts Left width a x (suc less) = IsShiftedLeft width a x (suc less)
Shifts Right width a x (suc less) = IsShiftedRight width a x (suc less)
Shifts RightSigned width a x (suc less) = IsShiftedSigned width a x (suc less)

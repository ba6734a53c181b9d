-- Words of 32 and 64 bits as whole numbers (Intel's manual, order number 325462, volume 1, sections 4.2.1 and 3.4.3.1).
use Rattle.std.specs.Prelude.{◌≡◌, ◌⊎◌, ◌↔◌, ℕ, ◌+◌, ◌*◌, ◌/◌, ◌%◌, ◌^◌, ◌<◌, ℤ, pos, ◌+ℤ◌, ◌≤ℤ◌, ◌<ℤ◌, true}
use Rattle.amd64_subset.specs.declared.instr.Width.{Width}
use Rattle.amd64_subset.specs.declared.instr.Width.TheVariants.{Long, Quad}
use Rattle.guest_arithmetic.specs.declared.effect.Change.{Change}
use Rattle.guest_arithmetic.specs.declared.effect.Change.TheVariants.{Set, Unsettled, Kept}

-- ** numbers

-- how many words of a width there are: 2^32 or 2^64
abbrev pub words : Width → ℕ
words Long = 4294967296
words Quad = 18446744073709551616

-- half of them
abbrev pub half : Width → ℕ
half Long = 2147483648
half Quad = 9223372036854775808

-- how many bits they have: as many counts a shift of them knows
abbrev pub counts : Width → ℕ
counts Long = 32
counts Quad = 64

-- a signed integer of the width can't be it: it is below the least one, or above the greatest
abbrev pub IsTooSmall : Width → ℤ → Type 0
IsTooSmall width x = (x +ℤ pos (half width)) <ℤ pos 0

abbrev pub IsTooLarge : Width → ℤ → Type 0
IsTooLarge width x = pos (half width) ≤ℤ x

abbrev pub IsOutside : Width → ℤ → Type 0
IsOutside width x = IsTooSmall width x ⊎ IsTooLarge width x

-- a word, and the signed integer that it is in two's complement
pub record IsSigned (width : Width) (word : ℕ) (x : ℤ) : Type 0 where
  pub below : word < words width
  pub same : (x ≡ pos word) ⊎ (x +ℤ pos (words width) ≡ pos word)
  pub least : pos 0 ≤ℤ (x +ℤ pos (half width))
  pub greatest : x <ℤ pos (half width)

-- a word is an integer, cut to the width: they differ by a multiple of 2^32 or 2^64
pub record IsCut (width : Width) (word : ℕ) (x : ℤ) : Type 0 where
  pub below : word < words width
  pub more : ℕ
  pub less : ℕ
  pub same : x +ℤ pos (more * words width) ≡ pos (word + less * words width)

-- bit k of a word is 1
abbrev pub IsSet : ℕ → ℕ → Type 0
IsSet k word = word / 2 ^ k % 2 ≡ 1

-- ** flags

-- the flag is set if this holds, and cleared if it does not
abbrev pub Shows : Change → Type 0 → Type 0
Shows (Set truth) P = (truth ≡ true) ↔ P
Shows Unsettled P = ⊥
Shows Kept P = ⊥

-- the manual leaves it undefined
abbrev pub IsUndefined : Change → Type 0
IsUndefined (Set truth) = ⊥
IsUndefined Unsettled = Unit {0}
IsUndefined Kept = ⊥

-- the instruction does not touch it
abbrev pub IsLeftAlone : Change → Type 0
IsLeftAlone (Set truth) = ⊥
IsLeftAlone Unsettled = ⊥
IsLeftAlone Kept = Unit {0}

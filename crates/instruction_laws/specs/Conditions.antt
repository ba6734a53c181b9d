-- When a condition holds: by the flags (Intel's manual, volume 1, appendix B, table B-1; volume 2, Jcc), and after a
-- comparison by the numbers that were compared. They watch `condition_of` and `with_changes` (guest_arithmetic).
use Rattle.std.specs.Prelude.{◌≡◌, ◌≢◌, ◌⊎◌, ◌↔◌, ℕ, ◌<◌, ◌≤◌, ℤ, ◌-ℤ◌, ◌<ℤ◌, ◌≤ℤ◌, Bool, true, false, Ok}
use Rattle.amd64_subset.specs.declared.instr.Condition.{Condition}
use Rattle.amd64_subset.specs.declared.instr.Condition.TheVariants.{Overflow, NotOverflow, Below, NotBelow, Equal}
use Rattle.amd64_subset.specs.declared.instr.Condition.TheVariants.{NotEqual, BelowOrEqual, Above, Sign, NotSign, Less}
use Rattle.amd64_subset.specs.declared.instr.Condition.TheVariants.{NotLess, LessOrEqual, Greater}
use Rattle.amd64_subset.specs.declared.instr.Width.{Width}
use Rattle.guest_arithmetic.specs.declared.effect.Change.{Change}
use Rattle.guest_arithmetic.specs.declared.effect.Change.TheVariants.{Set, Unsettled, Kept}
use Rattle.guest_arithmetic.specs.declared.effect.Changes.{Changes}
use Rattle.guest_arithmetic.specs.declared.flags.Flags.{Flags}
use Rattle.guest_arithmetic.specs.Flags.{condition_of}
use Rattle.guest_arithmetic.specs.Plain.{plain_operations}
use Rattle.instruction_laws.specs.Words.{IsOutside}
use Rattle.instruction_laws.specs.Results.{One}

-- ** by the flags

abbrev pub Holds : Condition → Flags Bool → Type 0
Holds Overflow flags = flags.overflow ≡ true
Holds NotOverflow flags = flags.overflow ≡ false
Holds Below flags = flags.carry ≡ true
Holds NotBelow flags = flags.carry ≡ false
Holds Equal flags = flags.zero ≡ true
Holds NotEqual flags = flags.zero ≡ false
Holds BelowOrEqual flags = (flags.carry ≡ true) ⊎ (flags.zero ≡ true)
Holds Above flags = (flags.carry ≡ false) × (flags.zero ≡ false)
Holds Sign flags = flags.sign ≡ true
Holds NotSign flags = flags.sign ≡ false
Holds Less flags = flags.sign ≢ flags.overflow
Holds NotLess flags = flags.sign ≡ flags.overflow
Holds LessOrEqual flags = (flags.zero ≡ true) ⊎ (flags.sign ≢ flags.overflow)
Holds Greater flags = (flags.zero ≡ false) × (flags.sign ≡ flags.overflow)

-- over plain flags a condition holds or not, exactly where this is so
abbrev pub IsTaken : Condition → Flags Bool → Type 0 → Type 0
IsTaken condition flags P = (truth : Bool) → (condition_of plain_operations condition flags ≡ Ok truth) ↔
    ((truth ≡ true) ↔ P)

-- ** after a comparison of the words a and b, which are x and y as signed integers

abbrev pub Compares : Condition → Width → ℕ → ℕ → ℤ → ℤ → Type 0
Compares Overflow width a b x y = IsOutside width (x -ℤ y)
Compares NotOverflow width a b x y = IsOutside width (x -ℤ y) → ⊥
Compares Below width a b x y = a < b
Compares NotBelow width a b x y = b ≤ a
Compares Equal width a b x y = a ≡ b
Compares NotEqual width a b x y = a ≢ b
Compares BelowOrEqual width a b x y = a ≤ b
Compares Above width a b x y = b < a
Compares Sign width a b x y = One (x <ℤ y) (IsOutside width (x -ℤ y))
Compares NotSign width a b x y = One (x <ℤ y) (IsOutside width (x -ℤ y)) → ⊥
Compares Less width a b x y = x <ℤ y
Compares NotLess width a b x y = y ≤ℤ x
Compares LessOrEqual width a b x y = x ≤ℤ y
Compares Greater width a b x y = y <ℤ x

-- ** what becomes of a flag: one that is left undefined the machine keeps

abbrev pub Becomes : Change → Bool → Bool → Type 0
Becomes (Set truth) before after = after ≡ truth
Becomes Unsettled before after = after ≡ before
Becomes Kept before after = after ≡ before

pub record Become (changes : Changes) (before after : Flags Bool) : Type 0 where
  pub zero : Becomes changes.zero before.zero after.zero
  pub sign : Becomes changes.sign before.sign after.sign
  pub carry : Becomes changes.carry before.carry after.carry
  pub overflow : Becomes changes.overflow before.overflow after.overflow

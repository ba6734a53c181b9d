-- The opcode maps, byte by byte.
use Rattle.std.proofs.Common.{◌≡◌, ℕ, zero, suc, ◌<◌, ◌++◌, Bool, true, false, List, [], ◌∷◌, map, Option, None, refl}
use Rattle.std.proofs.Common.{ap, subst, ⊎_elim, arith}
use Rattle.std.proofs.lemmas.Bool.{cases_lt}
use Rattle.amd64_words.specs.Register.{register_of}
use Rattle.amd64_subset.specs.declared.prefix.Rex.{Rex}
use Rattle.amd64_subset.specs.declared.row.Group.TheVariants as group
use Rattle.amd64_subset.specs.declared.row.Row.{Row}
use Rattle.amd64_subset.specs.Row.{row_of, escaped_row_of, fixed_row_of, condition_of, group_action, arithmetic_of}
use Rattle.amd64_subset.specs.Row.{shift_of}
use Rattle.instruction_laws.specs.Opcodes.{DigitsAreTheManuals, found, one_byte, stack, immediates, signed, two_bytes}
use Rattle.instruction_laws.specs.Opcodes.{OneByteIs}

below : ℕ → List ℕ
below zero = []
below (suc n) = n ∷ below n

first : List (Option Row) → Option Row
first [] = None
first (row ∷ rows) = row

others : List (Option Row) → List (Option Row)
others [] = []
others (row ∷ rows) = rows

each : (f g : ℕ → Option Row) (k n : ℕ) → n < k → map f (below k) ≡ map g (below k) → f n ≡ g n
unfolding below first others
each f g zero n small same = absurd (omega arith)
each f g (suc k) n small same = ⊎_elim (λ less. each f g k n less (ap others same))
    (λ high. let e : k ≡ n = omega arith in subst (λ (n : ℕ). f n ≡ g n) e (ap first same))
    (cases_lt n k)

abbrev rex_of : Bool → Bool → Bool → Bool → Rex
rex_of wide register index base = record { wide = wide; register = register; index = index; base = base }

one_by_one : (wide register index base : Bool) → map (row_of (rex_of wide register index base)) (below 256)
    ≡ map (λ opcode. found opcode (signed wide ++ (stack base ++ (immediates wide base ++ one_byte)))) (below 256)
unfolding below row_of fixed_row_of condition_of register_of
one_by_one false register index false = refl
one_by_one false register index true = refl
one_by_one true register index false = refl
one_by_one true register index true = refl

two_by_two : map escaped_row_of (below 256) ≡ map (λ opcode. found opcode two_bytes) (below 256)
unfolding below escaped_row_of condition_of
two_by_two = refl

pub opcodes : (opcode : ℕ) → opcode < 256
    → ((rex : Rex) → OneByteIs rex.wide rex.base rex opcode) × (escaped_row_of opcode ≡ found opcode two_bytes)
opcodes opcode small = (
  λ rex. each (row_of rex)
      (λ opcode. found opcode (signed rex.wide ++ (stack rex.base ++ (immediates rex.wide rex.base ++ one_byte))))
      256 opcode small
      (one_by_one rex.wide rex.register rex.index rex.base),
  each escaped_row_of (λ opcode. found opcode two_bytes) 256 opcode small two_by_two,
)

pub digits_are : DigitsAreTheManuals
unfolding group_action arithmetic_of shift_of
digits_are group.Move = refl
digits_are group.Arithmetic = refl
digits_are group.Shift = refl
digits_are group.ShiftOnce = refl
digits_are group.Target = refl
digits_are group.Nop = refl

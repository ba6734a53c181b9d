-- The laws: what is computed is the only answer with the manual's properties.
use Rattle.std.specs.Prelude.{◌≡◌, ◌↔◌, ℕ, ◌<◌, ◌^◌, ℤ, Bool, false, Ok, All}
use Rattle.amd64_words.specs.declared.register.Register.{Register}
use Rattle.amd64_subset.specs.declared.instr.Arithmetic.{Arithmetic}
use Rattle.amd64_subset.specs.declared.instr.Arithmetic.TheVariants.{Compare}
use Rattle.amd64_subset.specs.declared.instr.Condition.{Condition}
use Rattle.amd64_subset.specs.declared.instr.Decoded.{Decoded}
use Rattle.amd64_subset.specs.declared.instr.Shift.{Shift}
use Rattle.amd64_subset.specs.declared.instr.Width.{Width}
use Rattle.guest_arithmetic.specs.declared.effect.Changes.{Changes}
use Rattle.guest_arithmetic.specs.declared.effect.Effect.{Effect}
use Rattle.guest_arithmetic.specs.declared.flags.Flags.{Flags}
use Rattle.guest_arithmetic.specs.Arithmetic.{compute_effect, product_effect, shift_effect}
use Rattle.guest_arithmetic.specs.Flags.{with_changes}
use Rattle.guest_arithmetic.specs.Plain.{plain_operations}
use Rattle.guest_machine.specs.Step.{act}
use Rattle.guest_operands.specs.declared.state.State.{State}
use Rattle.guest_operands.specs.Frame.{frame_of}
use Rattle.guest_operands.specs.Ranges.{Range}
use Rattle.guest_operands.specs.RangeLaws.{range_accesses}
use Rattle.guest_operands.specs.State.{register_of}
use Rattle.guest_operands.specs.Use.{left}
use Rattle.instruction_laws.specs.Conditions.{Become, Compares, Holds, IsTaken}
use Rattle.instruction_laws.specs.Steps.{Does, Numbers}
use Rattle.instruction_laws.specs.Words.{words, counts, IsSigned}
use Rattle.instruction_laws.specs.Results.{Computes, IsProduct, Shifts}

-- each word is a signed integer, and only one
abbrev pub WordsAreSigned : Type 0
WordsAreSigned = (width : Width) (word : ℕ) → word < words width
    → (x : ℤ) × (IsSigned width word x) × ((y : ℤ) → IsSigned width word y → y ≡ x)

-- add, or, and, sub, xor, cmp, of words that are x and y as signed integers
abbrev pub ComputationsAreTheManuals : Type 0
ComputationsAreTheManuals = (kind : Arithmetic) (width : Width) (a b : ℕ) (x y : ℤ) → IsSigned width a x → IsSigned
    width b y
    → (effect : Effect) → (compute_effect kind width a b ≡ effect) ↔ Computes kind width a b x y effect

-- imul
abbrev pub ProductsAreTheManuals : Type 0
ProductsAreTheManuals = (width : Width) (a b : ℕ) (x y : ℤ) → IsSigned width a x → IsSigned width b y
    → (effect : Effect) → (product_effect width a b ≡ effect) ↔ IsProduct width x y effect

-- shl, shr, sar
abbrev pub ShiftsAreTheManuals : Type 0
ShiftsAreTheManuals = (shift : Shift) (width : Width) (a : ℕ) (x : ℤ) (count : ℕ) → IsSigned width a x → count <
    counts width
    → (effect : Effect) → (shift_effect shift width a count ≡ effect) ↔ Shifts shift width a x count effect

-- the flags of the machine after changes
abbrev pub FlagsChange : Type 0
FlagsChange = (changes : Changes) (before after : Flags Bool)
    → (with_changes plain_operations changes before ≡ after) ↔ Become changes before after

-- the conditions by the flags
abbrev pub ConditionsAreTheManuals : Type 0
ConditionsAreTheManuals = (condition : Condition) (flags : Flags Bool) → IsTaken condition flags (Holds condition flags)

-- a condition after cmp, whatever the flags were before
abbrev pub ComparisonsDecide : Type 0
ComparisonsDecide = (condition : Condition) (width : Width) (a b : ℕ) (x y : ℤ) (before : Flags Bool)
    → IsSigned width a x → IsSigned width b y
    → IsTaken condition (with_changes plain_operations (compute_effect Compare width a b).changes before)
    (Compares condition width a b x y)

-- where the registers hold words and no offset field stands in the instruction: what the manual says is done
abbrev pub StepsAreTheManuals : Type 0
StepsAreTheManuals = (d : Decoded) (before after : State ℕ Bool) (memory memory' : Numbers)
    → ((register : Register) → register_of before.registers register < 2 ^ 64)
    → Does d before memory d.instr.operation after memory'
    → act plain_operations (range_accesses plain_operations) (frame_of (λ place. false) before.place d)
    d.instr.operation before memory
    ≡ Ok (left after memory')

-- bytes of memory are below 256
abbrev pub IsByte : ℕ → Type 0
IsByte byte = byte < 256

abbrev pub HasBytes : Numbers → Type 0
HasBytes memory = All (λ (range : Range ℕ). All IsByte range.bytes) memory.ranges

-- and where memory holds bytes, what is done is what the manual says: so it says one thing at most, and something
-- wherever the machine goes on
abbrev pub StepsAreOnly : Type 0
StepsAreOnly = (d : Decoded) (before after : State ℕ Bool) (memory memory' : Numbers)
    → ((register : Register) → register_of before.registers register < 2 ^ 64) → HasBytes memory
    → act plain_operations (range_accesses plain_operations) (frame_of (λ place. false) before.place d)
    d.instr.operation before memory
    ≡ Ok (left after memory')
    → Does d before memory d.instr.operation after memory'

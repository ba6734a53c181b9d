-- The definitions at values.
use Rattle.std.proofs.Common.{◌≡◌, ℕ, true, [], ◌∷◌, Ok, Err, refl}
use Rattle.guest_arithmetic.specs.declared.cause.Cause.TheVariants as cause
use Rattle.guest_machine.specs.Operand.{kept, kept_byte}
use Rattle.amd64_subset.specs.declared.instr.Width.TheVariants.{Long}
use Rattle.guest_arithmetic.specs.Values.{Operations}
use Rattle.guest_machine.specs.Access.{bytes_from}
use Rattle.job_meaning.specs.declared.values.Block.{Block}
use Rattle.job_meaning.specs.declared.values.Token.{Token}
use Rattle.job_meaning.specs.declared.values.Token.TheVariants.{Base, Descriptor}
use Rattle.job_meaning.specs.declared.values.Word.{Word}
use Rattle.job_meaning.specs.declared.values.Word.TheVariants.{Number, Undefined, Marked}
use Rattle.job_meaning.specs.declared.values.Flag.{Flag}
use Rattle.job_meaning.specs.declared.values.Flag.TheVariants.{Truth}
use Rattle.job_meaning.specs.declared.values.Byte.{Byte}
use Rattle.job_meaning.specs.declared.values.Byte.TheVariants.{Value, Part}
use Rattle.job_meaning.specs.Marked.{marked_operations}

-- all code is of instance 2
owner : ℕ → ℕ
owner place = 2

ops : Operations Word Flag Byte
unfolding owner marked_operations
ops = marked_operations owner

block : ℕ → ℕ → ℕ → Block
block thread instance start = record { thread = thread; instance = instance; start = start }

base : Token
base = Base (block 1 2 0x7000)

-- a stored base is its eight bytes, and loaded again it is that base
carried : ops.joined (bytes_from ops (Marked base) 0 8) ≡ Marked base
unfolding owner marked_operations ops base block
carried = refl

-- a number's bytes are that number
spelled : ops.joined (Value 0x34 ∷ Value 0x12 ∷ Value 0 ∷ Value 0 ∷ []) ≡ Number 0x1234
unfolding owner marked_operations ops base block
spelled = refl

-- seven bytes of a base and a value: nothing is known
mixed : ops.joined (Part base 0 ∷ Part base 1 ∷ Part base 2 ∷ Part base 3 ∷ Part base 4 ∷ Part base 5 ∷ Part base 6
    ∷ Value 0 ∷ []) ≡ Undefined
unfolding owner marked_operations ops base block
mixed = refl

-- bytes of two bases, or in another order
two : ops.joined (Part base 0 ∷ Part base 1 ∷ Part base 2 ∷ Part base 3
    ∷ Part (Base (block 2 2 0x9000)) 4 ∷ Part (Base (block 2 2 0x9000)) 5
    ∷ Part (Base (block 2 2 0x9000)) 6 ∷ Part (Base (block 2 2 0x9000)) 7 ∷ []) ≡ Undefined
unfolding owner marked_operations ops base block
two = refl

turned : ops.joined (Part base 1 ∷ Part base 0 ∷ Part base 2 ∷ Part base 3 ∷ Part base 4 ∷ Part base 5 ∷ Part base 6
    ∷ Part base 7 ∷ []) ≡ Undefined
unfolding owner marked_operations ops base block
turned = refl

-- a narrower load
narrow : ops.joined (Part base 0 ∷ Part base 1 ∷ Part base 2 ∷ Part base 3 ∷ []) ≡ Undefined
unfolding owner marked_operations ops base block
narrow = refl

-- half of a base, and its lowest byte
half : kept ops Long (Marked base) ≡ Undefined
unfolding owner marked_operations ops base block kept
half = refl

lowest : kept_byte ops (Marked base) ≡ Undefined
unfolding owner marked_operations ops base block kept_byte
lowest = refl

-- uses
uses_number : ops.number_of (Number 7) ≡ Ok 7
unfolding owner marked_operations ops base block
uses_number = refl

uses_unknown : ops.number_of Undefined ≡ Err cause.Undefined
unfolding owner marked_operations ops base block
uses_unknown = refl

uses_base : ops.number_of (Marked base) ≡ Err cause.Base
unfolding owner marked_operations ops base block
uses_base = refl

uses_descriptor : ops.number_of (Marked (Descriptor 1 3)) ≡ Err cause.Descriptor
unfolding owner marked_operations ops base block
uses_descriptor = refl

uses_flag : ops.truth_of (ops.unsettled (Truth true)) ≡ Err cause.Flags
unfolding owner marked_operations ops base block
uses_flag = refl

-- a field moves a base of the code's own instance, of any thread, and nothing else
moves : ops.moved (Marked base) 0x10 0x2000 ≡ Ok 0x7010
unfolding owner marked_operations ops base block
moves = refl

moves_back : ops.moved (Marked (Base (block 9 2 0x7000))) 0xffffffffffffffff 0x2000 ≡ Ok 0x6fff
unfolding owner marked_operations ops base block
moves_back = refl

moves_other : ops.moved (Marked (Base (block 1 1 0x5000))) 0x10 0x2000 ≡ Err cause.Field
unfolding owner marked_operations ops base block
moves_other = refl

moves_number : ops.moved (Number 0x7000) 0x10 0x2000 ≡ Err cause.Field
unfolding owner marked_operations ops base block
moves_number = refl

moves_descriptor : ops.moved (Marked (Descriptor 2 1)) 0x10 0x2000 ≡ Err cause.Field
unfolding owner marked_operations ops base block
moves_descriptor = refl

misuses : ops.misused 0x10 ≡ Err cause.Field
unfolding owner marked_operations ops base block
misuses = refl

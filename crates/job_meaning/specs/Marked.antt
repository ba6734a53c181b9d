-- Marked values: what only the linker knows is a token, which may be moved and is not a number.
use Rattle.std.specs.Prelude.{ℕ, ◌+◌, ◌%◌, ◌^◌, ◌==◌, ◌&&◌, Bool, false, List, [], ◌∷◌, Option, Some, None, Result, Ok}
use Rattle.std.specs.Prelude.{Err, if◌then◌else◌}
use Rattle.guest_arithmetic.specs.declared.cause.Cause.{Cause}
use Rattle.guest_arithmetic.specs.declared.cause.Cause.TheVariants as cause
use Rattle.guest_arithmetic.specs.Values.{Operations, number_from, digit}
use Rattle.job_meaning.specs.declared.values.Block.{Block}
use Rattle.job_meaning.specs.declared.values.Token.{Token}
use Rattle.job_meaning.specs.declared.values.Token.TheVariants.{Base, Descriptor}
use Rattle.job_meaning.specs.declared.values.Word.{Word}
use Rattle.job_meaning.specs.declared.values.Word.TheVariants.{Number, Undefined, Marked}
use Rattle.job_meaning.specs.declared.values.Flag.{Flag}
use Rattle.job_meaning.specs.declared.values.Flag.TheVariants.{Truth, Unsettled}
use Rattle.job_meaning.specs.declared.values.Byte.{Byte}
use Rattle.job_meaning.specs.declared.values.Byte.TheVariants.{Value, Hidden, Part}

-- why a token is not a number
abbrev pub cause_of : Token → Cause
cause_of (Base block) = cause.Base
cause_of (Descriptor instance symbol) = cause.Descriptor

-- only a number is used as a number
abbrev pub used_number : Word → Result ℕ Cause
used_number (Number number) = Ok number
used_number Undefined = Err cause.Undefined
used_number (Marked token) = Err (cause_of token)

abbrev pub used_truth : Flag → Result Bool Cause
used_truth (Truth truth) = Ok truth
used_truth Unsettled = Err cause.Flags

-- only bytes that are values are code
abbrev pub code_byte : Byte → Option ℕ
code_byte (Value number) = Some number
code_byte byte = None

-- byte k of a word
abbrev pub part_of : Word → ℕ → Byte
part_of (Number number) k = Value (digit number k)
part_of Undefined k = Hidden
part_of (Marked token) k = Part token k

abbrev pub is_same_block : Block → Block → Bool
is_same_block block block' =
    ((block.thread == block'.thread) && (block.instance == block'.instance)) && (block.start == block'.start)

abbrev pub is_same : Token → Token → Bool
is_same (Base block) (Base block') = is_same_block block block'
is_same (Descriptor instance symbol) (Descriptor instance' symbol') = (instance == instance') && (symbol == symbol')
is_same token other = false

abbrev pub with_value : ℕ → Option (List ℕ) → Option (List ℕ)
with_value number None = None
with_value number (Some numbers) = Some (number ∷ numbers)

-- the numbers of bytes that are all values
abbrev pub values_of : List Byte → Option (List ℕ)
values_of [] = Some []
values_of (Value number ∷ bytes) = with_value number (values_of bytes)
values_of (byte ∷ bytes) = None

-- whether the bytes are those of a token, from byte k up to byte 7
abbrev pub are_parts : Token → ℕ → List Byte → Bool
are_parts token k [] = k == 8
are_parts token k (Part other j ∷ bytes) = (is_same token other && (k == j)) && are_parts token (k + 1) bytes
are_parts token k (byte ∷ bytes) = false

-- bytes 0 to 7 of one token are that token; nothing is known of any others that are not all values
abbrev pub whole : List Byte → Word
whole (Part token k ∷ bytes) = if are_parts token 0 (Part token k ∷ bytes) then Marked token else Undefined
whole bytes = Undefined

abbrev pub joined_as : Option (List ℕ) → List Byte → Word
joined_as (Some numbers) bytes = Number (number_from numbers % 2 ^ 64)
joined_as None bytes = whole bytes

-- owner: the instance whose code lies at an address
module _ (owner : ℕ → ℕ) where
  -- an offset field may be added to a base of the instance that the code belongs to, and to nothing else
  abbrev pub moved_in : Word → ℕ → ℕ → Result ℕ Cause
  moved_in (Marked (Base block)) field place =
      if block.instance == owner place then Ok ((block.start + field) % 2 ^ 64) else Err cause.Field
  moved_in word field place = Err cause.Field

  unfoldable pub marked_operations : Operations Word Flag Byte
  marked_operations = record {
    word = λ number. Number (number % 2 ^ 64);
    number_of = used_number;
    unknown = Undefined;
    flag = Truth;
    truth_of = used_truth;
    unsettled = λ flag. Unsettled;
    moved = moved_in;
    misused = λ number. Err cause.Field;
    byte = Value;
    code = code_byte;
    joined = λ bytes. joined_as (values_of bytes) bytes;
    byte_of = part_of;
  }

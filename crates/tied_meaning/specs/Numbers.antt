-- The machine's counterparts of the meaning's words, flags, bytes and fields: the same number, or for a token the
-- number that a linker chose.
use Rattle.std.specs.Prelude.{◌≡◌, ℕ, ◌+◌, ◌%◌, ◌^◌, ◌<◌, ◌&&◌, ◌==◌, Bool, true, Option, Some, None, if◌then◌else◌}
use Rattle.address_map.specs.Map.{owner_at, pointer_of}
use Rattle.guest_machine.specs.Follow.{Alike}
use Rattle.guest_arithmetic.specs.Values.{digit}
use Rattle.job_meaning.specs.declared.values.Block.{Block}
use Rattle.job_meaning.specs.declared.values.Token.{Token}
use Rattle.job_meaning.specs.declared.values.Token.TheVariants.{Base, Descriptor}
use Rattle.job_meaning.specs.declared.values.Word.{Word}
use Rattle.job_meaning.specs.declared.values.Word.TheVariants.{Number, Undefined, Marked}
use Rattle.job_meaning.specs.declared.values.Flag.{Flag}
use Rattle.job_meaning.specs.declared.values.Flag.TheVariants.{Truth, Unsettled}
use Rattle.job_meaning.specs.declared.values.Byte.{Byte}
use Rattle.job_meaning.specs.declared.values.Byte.TheVariants.{Value, Hidden, Part}
use Rattle.loaded_modules.specs.declared.instance.Instance.{Instance}
use Rattle.thread_blocks.specs.Instances.{block_start}

-- a linker's choices for a job, and the instance of each number. It is one record for a whole run: `known` is about
-- the history that the job ends with, and not about the events that some thread has seen
pub record Setting : Type 0 where
  -- the instance that has this number, if there ever is one
  pub known : ℕ → Option Instance
  -- the number of an instance's descriptor for a symbol
  pub descriptor : ℕ → ℕ → ℕ
  -- whether the instance's code has a sequence that makes this descriptor, so that there is one
  pub makes_descriptor : ℕ → ℕ → Bool
  -- whether Local Dynamic code of the program is rewritten: then its offsets count from the thread pointer
  pub counts_from_pointer : Bool

module _ (g : Setting) where
  -- ** tokens

  -- the number to which the offsets in a block are added: the block's address; or the thread pointer, for the
  -- program's block, if its Local Dynamic code is rewritten
  abbrev pub base_number : Block → ℕ
  base_number block =
      if g.counts_from_pointer && (block.instance == 1) then pointer_of block.thread else block.start

  -- the machine's number for a token
  abbrev pub number_for : Token → ℕ
  number_for (Base block) = base_number block % 2 ^ 64
  number_for (Descriptor instance symbol) = g.descriptor instance symbol % 2 ^ 64

  -- a token that some step of the job made: the base of a block names the block's address, and a descriptor is one
  -- that its instance's code makes. Without the second, nothing would be known of a call of it
  abbrev pub IsMade : Token → Type 0
  IsMade (Base block) =
      (x : Instance) × ((g.known block.instance ≡ Some x) × (block.start ≡ block_start block.thread x))
  IsMade (Descriptor instance symbol) = g.makes_descriptor instance symbol ≡ true

  -- ** values

  -- a word: a number is the same number, a token is its number, and an unknown word can be any number
  abbrev pub SameWord : Word → ℕ → Type 0
  SameWord (Number number) word = (word ≡ number) × (number < 2 ^ 64)
  SameWord Undefined word = Unit {0}
  SameWord (Marked token) word = (word ≡ number_for token) × IsMade token

  -- a byte: likewise, and byte k of a token is that byte of its number
  abbrev pub SameByte : Byte → ℕ → Type 0
  SameByte (Value number) byte = (byte ≡ number) × (number < 256)
  SameByte Hidden byte = Unit {0}
  SameByte (Part token k) byte = (byte ≡ digit (number_for token) k) × IsMade token

  -- a number in an instruction, at this address of the meaning's code if it is an offset field. A number that is not a
  -- field is the same. A field moves the base of each thread's block of the code's own instance to one address in
  -- both; for the machine it is a number like any other
  abbrev pub SameField : Option ℕ → Option ℕ → ℕ → ℕ → Type 0
  SameField None field number number' = (field ≡ None) × (number' ≡ number)
  SameField (Some place) field number number' =
      (field ≡ None) × ((block : Block) → IsMade (Base block) → block.instance ≡ owner_at place
      → (block.start + number) % 2 ^ 64 ≡ (base_number block + number') % 2 ^ 64)

-- a flag: if it is known, it is the same
abbrev pub SameFlag : Flag → Bool → Type 0
SameFlag (Truth truth) flag = flag ≡ truth
SameFlag Unsettled flag = Unit {0}

-- all of these, in the form that one machine following another needs
unfoldable pub alike : Setting → Alike Word Flag Byte ℕ Bool ℕ
alike g = record {
  word = SameWord g;
  flag = SameFlag;
  byte = SameByte g;
  field = SameField g;
}

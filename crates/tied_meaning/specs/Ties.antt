-- What is loaded of an instance, on the two sides: of its objects in the meaning, and of its linked image.
use Rattle.std.specs.Prelude.{◌≡◌, ◌≤◌, ◌<◌, ◌+◌, ◌-◌, ◌%◌, ◌^◌, ℕ, ℤ, true, false, List, All, IfSome, Option, Some}
use Rattle.std.specs.Prelude.{None, length, slice_get, option_and_then}
use Rattle.address_map.specs.Map.{owner_at}
use Rattle.amd64_subset.specs.Spelling.{field_of}
use Rattle.guest_operands.specs.declared.space.Access.{Access}
use Rattle.guest_operands.specs.declared.space.Access.TheVariants.{Read, Run}
use Rattle.guest_machine.specs.Follow.{All2}
use Rattle.guest_machine.specs.Ranges.{Range, byte_in, holds}
use Rattle.guest_machine.specs.Use.{plus}
use Rattle.job_meaning.specs.declared.values.Block.{Block}
use Rattle.job_meaning.specs.declared.values.Byte.{Byte}
use Rattle.job_meaning.specs.declared.values.Token.TheVariants.{Base}
use Rattle.job_meaning.specs.Marked.{code_byte}
use Rattle.loaded_modules.specs.declared.instance.Instance.{Instance}
use Rattle.module_table.specs.declared.events.Event.{Event}
use Rattle.module_table.specs.Past.{startup_count}
use Rattle.thread_blocks.specs.Instances.{Loads, instances, instance_with_id, is_startup_id, numbered_instance}
use Rattle.thread_blocks.specs.SpaceLaws.{FoundAlike, NoneWritable, SameRange}
use Rattle.thread_blocks.specs.Turns.{IsFront}
use Rattle.whole_meaning.specs.declared.marks.Mark.TheVariants.{Usual, Offset, Address}
use Rattle.whole_meaning.specs.declared.sequences.Sequence.{Sequence}
use Rattle.whole_meaning.specs.Fields.{is_minus}
use Rattle.whole_meaning.specs.Meanings.{Meaning}
use Rattle.tied_meaning.specs.Codes.{SameCodeByte}
use Rattle.tied_meaning.specs.Numbers.{Setting, IsMade, SameByte, base_number}
use Rattle.tied_meaning.specs.Sites.{HasWord, Stands}

-- an address of an instance: the instance's number is in it; it is above all low addresses, such as those of the run
-- time, and below all stacks and blocks
abbrev pub IsPlaceOf : Instance → ℕ → Type 0
IsPlaceOf x place = (owner_at place ≡ x.number) × ((0x400000 ≤ place) × (place < 2 ^ 39))

-- the data that threads write, as a load fills them: none on both sides, or one range, byte by byte
abbrev pub SameShared : Setting → Option (Range Byte) → Option (Range ℕ) → Type 0
SameShared g None None = Unit {0}
SameShared g None (Some range') = ⊥
SameShared g (Some range) None = ⊥
SameShared g (Some range) (Some range') = SameRange (SameByte g) range range'

-- four bytes of an instance's code
pub record HasFourBytes (q : Loads ℕ) (x : Instance) (place : ℕ) (four : List ℕ) : Type 0 where
  pub long : length four ≡ 4
  pub there : (k : ℕ) → k < 4 → byte_in Run (q.fixed x) (place + k) ≡ slice_get four k

-- one instance. The meaning has nothing of the room after its sections, where a linker has its tables and its stub
pub record IsTied (g : Setting) (m : Meaning) (q : Loads ℕ) (x : Instance) : Type 0 where
  -- ** its number
  pub known : g.known x.number ≡ Some x
  pub number : (0 < x.number) × (x.number < 2 ^ 12)
  pub offset : IfSome x.offset (λ (o : ℕ). o < 2 ^ 28)
  -- a block ends below the thread pointer, or has an address of its own with room for it
  pub fits : (length (q.block x) ≤ 2 ^ 24) × IfSome x.offset (λ (o : ℕ). length (q.block x) ≤ o)
  -- ** its contents
  -- functions, by their names
  pub function : (name : List ℕ) → q.function x name ≡ m.loads.function x name
  -- bytes that can be read, outside the room
  pub reads : (place : ℕ) → m.room x place ≡ false
      → FoundAlike (SameByte g) (byte_in Read (m.loads.fixed x) place) (byte_in Read (q.fixed x) place)
  pub meant_still : NoneWritable (m.loads.fixed x)
  pub still : NoneWritable (q.fixed x)
  -- a thread's fresh block of it, and its data
  pub block : All2 (SameByte g) (m.loads.block x) (q.block x)
  pub shared : SameShared g (m.loads.shared x) (q.shared x)
  -- ** its addresses
  pub there : (access : Access) (place byte : ℕ) → byte_in access (q.fixed x) place ≡ Some byte → IsPlaceOf x place
  pub meant_there : (access : Access) (place : ℕ) (byte : Byte) → byte_in access (m.loads.fixed x) place ≡ Some byte
      → IsPlaceOf x place
  pub rooms : (place : ℕ) → m.room x place ≡ true → IsPlaceOf x place
  pub tables : All (λ (range : Range ℕ). (place : ℕ) → holds range place ≡ true → IsPlaceOf x place) (q.tables x)
  -- its data can't be run, and nothing else of it lies at their addresses
  pub data_there : IfSome (q.shared x) (λ (range : Range ℕ). (range.runnable ≡ false)
      × ((place : ℕ) → holds range place ≡ true
      → IsPlaceOf x place × ((access : Access) → byte_in access (q.fixed x) place ≡ None)))
  -- ** its code
  -- outside the room: the same bytes, except in fields and in sequences
  pub code : (place : ℕ) → m.room x place ≡ false → SameCodeByte (m.mark x place)
      (option_and_then code_byte (byte_in Run (m.loads.fixed x) place)) (byte_in Run (q.fixed x) place)
  -- an instruction that begins outside the room has no byte in it
  pub run_on : (here k : ℕ) → k < 15 → m.room x here ≡ false → m.room x (here + k) ≡ true
      → byte_in Run (q.fixed x) (here + k) ≡ None
  pub no_code : (place : ℕ) → m.room x place ≡ true
      → (byte_in Run (m.loads.fixed x) place ≡ None) × (m.mark x place ≡ Usual)
  -- four bytes that begin in its code end at addresses of its own
  pub ends : (place k byte : ℕ) → k < 4 → byte_in Run (q.fixed x) place ≡ Some byte → owner_at (place + k) ≡ x.number
  -- ** its fields and sequences
  -- a byte of a field has the field's first byte before it, with the same number
  pub offset_begins : (place number byte : ℕ) → m.mark x place ≡ Offset number byte
      → (byte ≤ place) × (m.mark x (place - byte) ≡ Offset number 0)
  pub address_begins : (place number byte : ℕ) (addend : ℤ) → m.mark x place ≡ Address number addend byte
      → (byte ≤ place) × (m.mark x (place - byte) ≡ Address number addend 0)
  -- an offset field holds a number that moves the bases of its own blocks as the meaning's number does
  pub offset_field : (place number : ℕ) (four : List ℕ) → m.mark x place ≡ Offset number 0
      → HasFourBytes q x place four
      → (block : Block) → IsMade g (Base block) → block.instance ≡ x.number
      → (block.start + number) % 2 ^ 64 ≡ (base_number g block + field_of four) % 2 ^ 64
  -- an address field leads, from this many bytes after its address, to a word with the mark's number
  pub address_field : (place number size : ℕ) (addend : ℤ) (four : List ℕ) → m.mark x place ≡ Address number addend 0
      → HasFourBytes q x place four → is_minus addend size ≡ true
      → (number < 2 ^ 64) × HasWord q x (plus (plus place size) (field_of four)) number
  -- the code in place of a sequence does what the sequence means
  pub sites : (place : ℕ) (s : Sequence) → m.sequence x place ≡ Some s → Stands g q x place s

-- all that is loaded in a job that ends with this history
pub record AreTied (g : Setting) (m : Meaning) (q : Loads ℕ) (history : List Event) : Type 0 where
  -- the images are one job's: opens and closes have the same answers, and variables the same offsets
  pub infos : q.infos ≡ m.loads.infos
  pub last : q.last_offset ≡ m.loads.last_offset
  pub variable : (image : ℕ) (name : List ℕ) → q.variable image name ≡ m.loads.variable image name
  -- each instance that is live at some time
  pub each : (seen : List Event) → IsFront seen history → All (IsTied g m q) (instances q seen)
  -- each instance that has a number; it may be live now though a thread has not seen it yet
  pub known : (number : ℕ) (x : Instance) → g.known number ≡ Some x → IsTied g m q x × (x.number ≡ number)
  -- at any time an id finds the live instance that has it
  pub ids : (seen : List Event) (x : Instance) → IsFront seen history → numbered_instance q seen x.number ≡ Some x
      → instance_with_id q seen x.id ≡ Some x
  -- startup instances are always live, and their number is their id
  pub startup : (seen : List Event) (number : ℕ) → IsFront seen history → 0 < number → number ≤ startup_count q.infos
      → (x : Instance) × ((numbered_instance q seen number ≡ Some x) × (x.id ≡ number))
  -- no other instance has one of these ids
  pub late_ids : (seen : List Event) (x : Instance) → IsFront seen history → numbered_instance q seen x.number ≡ Some x
      → startup_count q.infos < x.number → is_startup_id q x.id ≡ false

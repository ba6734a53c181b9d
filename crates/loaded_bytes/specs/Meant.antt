-- All that is loaded, except code, is what the job's meaning loads.
use Rattle.std.specs.Prelude.{◌≡◌, ℕ, false, List, map, option_map}
use Rattle.guest_operands.specs.declared.space.Access.TheVariants.{Read}
use Rattle.guest_operands.specs.Ranges.{Range, byte_in}
use Rattle.job_meaning.specs.declared.values.Byte.{Byte}
use Rattle.job_meaning.specs.declared.values.Byte.TheVariants.{Value}
use Rattle.link_needs.specs.Linking.{Linking}
use Rattle.loaded_modules.specs.declared.instance.Instance.{Instance}
use Rattle.thread_blocks.specs.JobLoads.{job_loads}
use Rattle.whole_meaning.specs.Bytes.{block_bytes}
use Rattle.whole_meaning.specs.Loads.{data_ranges, still_ranges}
use Rattle.whole_meaning.specs.Spots.{bias_of, in_room}
use Rattle.loaded_bytes.specs.Laws.{IsInstanceOf, images_of}

-- the range with its numbers as values of the meaning
abbrev pub valued : Range ℕ → Range Byte
valued range = record {
  start = range.start;
  bytes = map Value range.bytes;
  readable = range.readable;
  writable = range.writable;
  runnable = range.runnable;
}

-- what can be read outside the room
abbrev pub ReadsAreMeant : Type 0
ReadsAreMeant = (ls : List Linking) (l : Linking) (x : Instance) (place : ℕ) → IsInstanceOf ls l x
    → in_room l (bias_of l.kind x.number) place ≡ false
    → option_map Value (byte_in Read ((job_loads (images_of ls)).fixed x) place)
    ≡ byte_in Read (still_ranges l (bias_of l.kind x.number)) place

-- the data that threads write
abbrev pub DataIsMeant : Type 0
DataIsMeant = (ls : List Linking) (l : Linking) (x : Instance) → IsInstanceOf ls l x
    → option_map valued ((job_loads (images_of ls)).shared x) ≡ data_ranges l (bias_of l.kind x.number)

-- a thread's block before any write
abbrev pub BlocksAreMeant : Type 0
BlocksAreMeant = (ls : List Linking) (l : Linking) (x : Instance) → IsInstanceOf ls l x
    → (job_loads (images_of ls)).block x ≡ block_bytes l (bias_of l.kind x.number)

-- The owners of ranges, as the code has them.
use Rattle.std.specs.Prelude.{◌≡◌, ℕ, Bool, false, List, Option, option_and_then, option_map}
use Rattle.std.specs.List.{find}
use Rattle.job_meaning.specs.declared.values.Byte.{Byte}
use Rattle.marked_bytes.specs.Parts.{part_of}
use Rattle.thread_blocks.specs.Held.{Block, Data, Kind, Owned, Owner, data_bytes, is_block_of, is_data_of}
use Rattle.marked_memory.specs.declared.owned.Written.{Written}
use Rattle.marked_memory.specs.declared.owned.Written.TheVariants as written

abbrev pub kind_of : Written → Kind
kind_of written.Block = Block
kind_of written.Data = Data

-- whether it is the block, or the data, of an instance
abbrev pub is_owner : Written → ℕ → Owner → Bool
is_owner written.Block instance o = is_block_of instance o
is_owner written.Data instance o = is_data_of instance o

-- the bytes of the first range whose owner is asked for
abbrev pub bytes_for : (Owner → Bool) → List (Owned Byte) → Option (List Byte)
bytes_for test xs = option_map (λ x. x.range.bytes) (find (λ x. test x.owner) xs)

-- `size` bytes of a block, from an offset; None if there is no block, or it ends before
abbrev pub part_in : ℕ → ℕ → Option (List Byte) → Option (List Byte)
part_in offset size block = option_and_then (part_of offset size) block

-- the bytes of all owners but one are unchanged
pub record LeavesOthers (kind : Written) (instance : ℕ) (old new : List (Owned Byte)) : Type 0 where
  pub others : (test : Owner → Bool) → test (record { kind = kind_of kind; instance = instance }) ≡ false
      → bytes_for test new ≡ bytes_for test old

-- the data of all instances are unchanged
abbrev pub HasSameData : List (Owned Byte) → List (Owned Byte) → Type 0
HasSameData old new = (number : ℕ) → data_bytes number new ≡ data_bytes number old

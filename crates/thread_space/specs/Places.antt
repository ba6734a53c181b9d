-- The ranges of one instance, and which of them takes a byte that is written.
use Rattle.std.specs.Prelude.{◌-◌, ℕ, Bool, List, Option, Some, None, is_some, nat_le, if◌then◌else◌}
use Rattle.guest_operands.specs.declared.space.Access.TheVariants.{Write}
use Rattle.guest_operands.specs.Ranges.{Range, byte_in}
use Rattle.loaded_modules.specs.declared.instance.Instance.{Instance}
use Rattle.loaded_modules.specs.Images.{JobImages}
use Rattle.module_data.specs.Pieces.{Piece}
use Rattle.thread_blocks.specs.Held.{block_with, ranges_in}
use Rattle.thread_space.specs.Kept.{data_in}
use Rattle.thread_vector.specs.Vectors.{Vector, held}

-- the block of an instance, if the thread has one
unfoldable pub block_ranges : Vector → Instance → List (Range ℕ)
block_ranges v x = ranges_in (block_with v.thread x (held v x.number))

-- the data of an instance, if its image has any
unfoldable pub data_ranges : JobImages → List Piece → Instance → List (Range ℕ)
data_ranges m d x = ranges_in (data_in m d x)

-- whether a byte at this address may be written
abbrev pub takes : List (Range ℕ) → ℕ → Bool
takes ranges place = is_some (byte_in Write ranges place)

-- the offset of an address from a start, unless it lies before the start
abbrev pub behind : ℕ → ℕ → Option ℕ
behind start place = if nat_le start place then Some (place - start) else None

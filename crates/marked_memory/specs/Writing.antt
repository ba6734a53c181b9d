-- What a write of a byte changes in ranges that have owners.
use Rattle.std.specs.Prelude.{◌-◌, ℕ, List, [], ◌∷◌, slice_set, if◌then◌else◌}
use Rattle.guest_operands.specs.declared.space.Access.TheVariants.{Write}
use Rattle.guest_operands.specs.Ranges.{grants}
use Rattle.job_meaning.specs.declared.values.Byte.{Byte}
use Rattle.thread_blocks.specs.Held.{Owned}

-- with a byte written in its range
abbrev pub written_at : Owned Byte → ℕ → Byte → Owned Byte
written_at o place byte = record o {
  range = record o.range { bytes = slice_set o.range.bytes (place - o.range.start) byte };
}

-- a write changes the first range that may be written there; where there is none, it changes nothing
abbrev pub written_in : List (Owned Byte) → ℕ → Byte → List (Owned Byte)
written_in [] place byte = []
written_in (o ∷ os) place byte =
    if grants Write o.range place then written_at o place byte ∷ os else o ∷ written_in os place byte

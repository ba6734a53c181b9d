-- A part of some bytes.
use Rattle.std.specs.Prelude.{◌+◌, ℕ, List, Option, None, Some, length, nat_le, slice_range, if◌then◌else◌}
use Rattle.job_meaning.specs.declared.values.Byte.{Byte}

-- as many bytes as this from an offset on, if all of them are there
abbrev pub part_of : ℕ → ℕ → List Byte → Option (List Byte)
part_of offset size bytes =
    if nat_le (offset + size) (length bytes) then Some (slice_range bytes offset (offset + size)) else None

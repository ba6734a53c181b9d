-- A part of some bytes, where all of it is there.
use Rattle.std.proofs.Common.{◌≡◌, ◌+◌, ◌<◌, ◌≤◌, ℕ, List, Option, Some, None, length, refl}
use Rattle.std.specs.Prelude.{slice_range}
use Rattle.std.proofs.lemmas.Bool.{le-leb, lt-leb}
use Rattle.job_meaning.specs.declared.values.Byte.{Byte}
use Rattle.marked_bytes.specs.Parts.{part_of}

module _ (offset size : ℕ) (bytes : List Byte) where
  pub part_is : (part : List Byte) → offset + size ≤ length bytes → part ≡ slice_range bytes offset (offset + size)
      → Some part ≡ part_of offset size bytes
  part_is part within is = rw (le-leb (offset + size) (length bytes) within, is) refl

  pub part_is_none : length bytes < offset + size → ◌≡◌ {A = Option (List Byte)} None (part_of offset size bytes)
  part_is_none past = rw (lt-leb (offset + size) (length bytes) past) refl

-- One part of an instance: its rights, and its bytes.
use Rattle.std.specs.Prelude.{◌+◌, ◌^◌, ◌&&◌, ℕ, Bool, false, not, List, Option, Some, None, if◌then◌else◌}
use Rattle.std.specs.Prelude.{option_and_then, nat_lt, slice_get, ◌==◌}
use Rattle.std.specs.List.{filter}
use Rattle.guest_operands.specs.declared.space.Access.{Access}
use Rattle.guest_operands.specs.declared.space.Access.TheVariants.{Read, Run, Write}
use Rattle.guest_operands.specs.Ranges.{Range}
use Rattle.image_file.specs.declared.part.PartClass.{PartClass}
use Rattle.image_file.specs.Spelled.{Part, Spelled, is_writable}
use Rattle.loaded_modules.specs.declared.instance.Instance.{Instance}
use Rattle.loaded_modules.specs.Images.{JobImages}
use Rattle.loaded_modules.specs.Loader.{bias, part_bytes}
use Rattle.thread_blocks.specs.JobLoads.{instance_part}
use Rattle.thread_blocks.specs.RunTime.{has_words}
use Rattle.thread_space.specs.Places.{behind}
use Rattle.image_names.specs.Functions.{is_code}
use Rattle.std.specs.Option.{option_map_or}

-- the accesses that a part allows, if no thread writes it
abbrev pub allows_fixed : Access → PartClass → Bool → Bool
allows_fixed Read class is_loaders = not (is_code class) && not (is_writable class && not is_loaders)
allows_fixed Write class is_loaders = false
allows_fixed Run class is_loaders = is_code class

-- whether an image with this load bias may have a part at one of the 15 addresses from `place` on: its parts end below
-- 2^27 before the load bias is added
abbrev pub is_near : ℕ → ℕ → Bool
is_near bias place = nat_lt bias (place + 15) && nat_lt place (bias + 2 ^ 27)

-- the ranges that no thread writes
abbrev pub fixed_ranges : List (Range ℕ) → List (Range ℕ)
fixed_ranges ranges = filter (λ (range : Range ℕ). not range.writable) ranges

module _ (m : JobImages) (image : Spelled) (x : Instance) (i : ℕ) where
  -- the byte at an address in part i, if the part allows the access and no thread writes it
  abbrev pub byte_of_part : Access → ℕ → Option Part → Option ℕ
  byte_of_part access place None = None
  byte_of_part access place (Some part) =
      if allows_fixed access part.class (option_map_or (λ (own : ℕ). own == i) image.got false)
      then option_and_then (slice_get (part_bytes m image x part))
      (behind (part.address + bias image.kind x.number) place)
      else None

  -- whether the part is written, and holds the 16 bytes from an address on
  abbrev pub part_has_words : ℕ → Option Part → Bool
  part_has_words address None = false
  part_has_words address (Some part) = is_writable part.class && has_words address (instance_part m image x i part)

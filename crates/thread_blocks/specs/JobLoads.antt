-- What is loaded of a job's images: each part of a live instance at its address, as the loader leaves it, with the
-- rights of its class (gABI, "Program Loading").
use Rattle.std.specs.Prelude.{◌+◌, ◌==◌, ◌&&◌, ℕ, false, not, suc, List, [], ◌∷◌, option_and_then, option_map}
use Rattle.std.specs.Prelude.{if◌then◌else◌}
use Rattle.std.specs.List.{filter, find}
use Rattle.guest_machine.specs.Ranges.{Range}
use Rattle.image_file.specs.Spelled.{Part, Spelled, is_writable}
use Rattle.loaded_modules.specs.declared.instance.Instance.{Instance}
use Rattle.loaded_modules.specs.Images.{JobImages, image_at, infos, last_offset}
use Rattle.loaded_modules.specs.Loader.{bias, fresh_block, part_bytes}
use Rattle.thread_blocks.specs.Instances.{Loads}
use Rattle.image_names.specs.declared.variable.Variable.{Variable}
use Rattle.image_names.specs.Functions.{entry_in, is_code}
use Rattle.image_names.specs.Variables.{variable_in}
use Rattle.std.specs.Option.{option_map_or}

-- part i of an image, in an instance; one of them, the GOT, only the loader writes
abbrev pub instance_part : JobImages → Spelled → Instance → ℕ → Part → Range ℕ
instance_part m image x i part = record {
  start = part.address + bias image.kind x.number;
  bytes = part_bytes m image x part;
  readable = not (is_code part.class);
  writable = is_writable part.class && not (option_map_or (λ got. got == i) image.got false);
  runnable = is_code part.class;
}

abbrev pub parts_from : JobImages → Spelled → Instance → ℕ → List Part → List (Range ℕ)
parts_from m image x i [] = []
parts_from m image x i (part ∷ more) = instance_part m image x i part ∷ parts_from m image x (suc i) more

abbrev pub loaded_parts : JobImages → Instance → List (Range ℕ)
loaded_parts m x = option_map_or (λ image. parts_from m image x 0 image.parts) (image_at m x.image) []

-- the parts that the loader or threads write
abbrev pub written_from : List Part → List (Range ℕ) → List (Range ℕ)
written_from (part ∷ parts) (range ∷ ranges) =
    if is_writable part.class then range ∷ written_from parts ranges else written_from parts ranges
written_from parts ranges = []

-- all that is loaded of a job's images
unfoldable pub job_loads : JobImages → Loads ℕ
job_loads m = record {
  infos = infos m;
  last_offset = last_offset m;
  function = λ x name. option_and_then (λ image. option_map (λ place. place + bias image.kind x.number)
      (entry_in image name)) (image_at m x.image);
  variable = λ image name. option_map (λ (v : Variable). v.offset)
      (option_and_then (λ found. variable_in found name) (image_at m image));
  fixed = λ x. filter (λ (range : Range ℕ). not range.writable) (loaded_parts m x);
  tables = λ x. option_map_or (λ image. written_from image.parts (parts_from m image x 0 image.parts))
      (image_at m x.image) [];
  shared = λ x. find (λ (range : Range ℕ). range.writable) (loaded_parts m x);
  block = λ x. fresh_block m x;
}

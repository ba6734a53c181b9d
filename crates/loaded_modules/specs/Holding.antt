-- What the code keeps for a job's images.
use Rattle.std.specs.Prelude.{◌≡◌, ◌≤◌, ◌∷◌, length, map}
use Rattle.module_table.specs.Modules.{AreInfos}
use Rattle.loaded_modules.specs.declared.modules.Modules.TheInside.{Inside}
use Rattle.loaded_modules.specs.Ends.{ends_behind}
use Rattle.loaded_modules.specs.Images.{JobImages, infos}
use Rattle.loaded_modules.specs.Loader.{export_of}

abbrev pub images_of : Inside → JobImages
images_of m = record { kinds = m.kinds.items; images = m.images.items }

pub record HoldsImages (m : Inside) : Type 0 where
  pub each : length m.kinds.items ≡ length m.images.items
  pub some : 1 ≤ length m.kinds.items
  pub few : length m.kinds.items ≤ 64
  pub told : m.infos.items ≡ infos (images_of m)
  pub are_infos : AreInfos (infos (images_of m))
  pub offsets : m.static_offsets.items ≡ 0 ∷ ends_behind (infos (images_of m)) 0
  pub imported : map (λ row. row.items) m.imports.items
      ≡ map (λ image. map (λ name. export_of (images_of m) name) image.names) m.images.items

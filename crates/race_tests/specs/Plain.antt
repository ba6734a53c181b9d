-- Images whose relocations are fit for any job.
use Rattle.std.specs.Prelude.{◌≡◌, ◌≢◌, ◌⊎◌}
use Rattle.std.specs.List.{All}
use Rattle.image_faults.specs.declared.loader_kind.LoaderKind.TheVariants.{JumpSlot, ThreadOffset}
use Rattle.image_file.specs.declared.relocation.ImageRelocation.{ImageRelocation}
use Rattle.image_file.specs.Spelled.{Spelled}

-- the relocation names no variable, and needs no block at a fixed distance from the thread pointer
abbrev pub IsPlain : ImageRelocation → Type 0
IsPlain r = ((r.symbol ≡ 0) ⊎ (r.kind ≡ JumpSlot)) × (r.kind ≢ ThreadOffset)

abbrev pub IsPlainImage : Spelled → Type 0
IsPlainImage image = All IsPlain image.relocations

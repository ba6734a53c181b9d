-- How far below the thread pointer the blocks of startup images begin, one after another, and what every image
-- ensures of its TLS segment.
use Rattle.std.specs.Prelude.{◌≤◌, ◌<◌, ◌+◌, ◌^◌, ℕ, List, [], ◌∷◌, if◌then◌else◌}
use Rattle.std.specs.Int.{next_multiple_of}
use Rattle.image_file.specs.declared.part.TlsPart.{TlsPart}
use Rattle.module_table.specs.declared.modules.ImageInfo.{ImageInfo}

-- the initial image is part of the block, which is small, and aligned to a page at most
pub record IsTls (tls : TlsPart) : Type 0 where
  pub within : tls.initial ≤ tls.size
  pub small : tls.size ≤ 2 ^ 20
  pub aligned : 0 < tls.alignment
  pub page : tls.alignment ≤ 4096

-- where the block of an image begins, after those before it
abbrev pub end_behind : ℕ → ImageInfo → ℕ
end_behind taken info = if info.late then taken else next_multiple_of (taken + info.size) info.align

-- where the block of each image begins
abbrev pub ends_behind : List ImageInfo → ℕ → List ℕ
ends_behind [] taken = []
ends_behind (info ∷ infos) taken = end_behind taken info ∷ ends_behind infos (end_behind taken info)

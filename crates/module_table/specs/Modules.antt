-- One image: what must hold of it at the start, and how its state is read.
use Rattle.std.specs.Prelude.{◌≡◌, ◌≤◌, ◌<◌, ◌^◌, Bool, true, false, not, nat_lt, ◌&&◌, None, List, length, All}
use Rattle.std.specs.Prelude.{AllPairs}
use Rattle.module_table.specs.declared.modules.ImageInfo.{ImageInfo}
use Rattle.module_table.specs.declared.modules.Module.{Module}
use Rattle.std.specs.Prelude.{◌+◌, ℕ, if◌then◌else◌, []}
use Rattle.std.specs.Prelude.{◌∷◌}
use Rattle.std.specs.Int.{next_multiple_of}

-- a TLS segment of at most 2^20 bytes, with an alignment from 1 to 4,096
pub record IsInfo (info : ImageInfo) : Type 0 where
  pub small : info.size ≤ 2 ^ 20
  pub aligned : 0 < info.align
  pub page : info.align ≤ 4096

-- from 1 to 64 images, late ones last
pub record AreInfos (infos : List ImageInfo) : Type 0 where
  pub some : 1 ≤ length infos
  pub few : length infos ≤ 64
  pub late_last : AllPairs (λ (a b : ImageInfo). a.late ≡ true → b.late ≡ true) infos
  pub each : All IsInfo infos

-- the module of a number without an image
abbrev pub no_module : Module
no_module = record {
  info = record { late = false; statics = false; size = 0; align = 1 };
  uses = 0;
  instance = 0;
  id = 0;
  offset = None;
}

-- it is held open, or started with the program
abbrev pub is_loaded : Module → Bool
is_loaded m = nat_lt 0 m.uses

-- it started with the program, and stays
abbrev pub is_permanent : Module → Bool
is_permanent m = is_loaded m && not m.info.late

-- how far below the thread pointer the last of them begins
abbrev pub startup_end : List ImageInfo → ℕ → ℕ
startup_end [] taken = taken
startup_end (info ∷ infos) taken =
    if info.late then startup_end infos taken else startup_end infos (next_multiple_of (taken + info.size) info.align)

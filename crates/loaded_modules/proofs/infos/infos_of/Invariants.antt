-- The images so far, and those that are left.
use Rattle.std.proofs.Common.{◌≡◌, ◌++◌, All, drop}
use Rattle.module_table.specs.Modules.{IsInfo}
use Rattle.loaded_modules.specs.Images.{infos_of}
use Rattle.loaded_modules.proofs.infos.infos_of.Given as goal

abbrev pub invariant-loop-index : goal.invariant-loop-index
invariant-loop-index l =
    (l.infos.items ++ infos_of (drop l.index l.kinds) (drop l.index l.images) ≡ infos_of l.kinds l.images)
    × All IsInfo l.infos.items

-- The blocks so far, and those that are left.
use Rattle.std.proofs.Common.{◌≡◌, ◌≤◌, ◌+◌, ◌*◌, ◌^◌, drop}
use Rattle.module_table.specs.Modules.{startup_end}
use Rattle.meant_images.proofs.images.end_of.Given as goal

abbrev pub invariant-loop-info : goal.invariant-loop-info
invariant-loop-info l =
    (startup_end (drop l.info-index l.infos) l.end ≡ startup_end l.infos 0) × (l.end ≤ l.info-index * (2 ^ 20 + 4096))

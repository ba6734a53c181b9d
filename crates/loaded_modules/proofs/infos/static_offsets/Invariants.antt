-- The images so far, and those that are left.
use Rattle.std.proofs.Common.{◌≡◌, ◌≤◌, ◌+◌, ◌*◌, ◌^◌, ◌++◌, ◌∷◌, drop}
use Rattle.loaded_modules.specs.Ends.{ends_behind}
use Rattle.loaded_modules.proofs.infos.static_offsets.Given as goal

abbrev pub invariant-loop-info : goal.invariant-loop-info
invariant-loop-info l =
    (l.offsets.items ++ ends_behind (drop l.info-index l.infos) l.taken ≡ 0 ∷ ends_behind l.infos 0)
    × (l.taken ≤ l.info-index * (2 ^ 20 + 4096))

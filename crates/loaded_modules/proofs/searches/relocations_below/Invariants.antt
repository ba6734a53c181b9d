-- All below `low` are below the address, none from `high` on.
use Rattle.std.proofs.Common.{◌≤◌, ◌-◌}
use Rattle.loaded_modules.specs.Places.{AllBelow, NoneBelow}
use Rattle.loaded_modules.proofs.searches.relocations_below.Given as goal

abbrev pub invariant-loop-low : goal.invariant-loop-low
invariant-loop-low l =
    AllBelow l.image.relocations l.low l.address × NoneBelow l.image.relocations l.high l.address × (l.low ≤ l.high)

abbrev pub decreases-loop-low : goal.decreases-loop-low
decreases-loop-low l = l.high - l.low

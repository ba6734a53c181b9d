use Rattle.std.proofs.Common.{◌≡◌, drop}
use Rattle.std.specs.List.{list_any}
use Rattle.image_names.specs.Functions.{runs_at}
use Rattle.image_names.proofs.meaning.is_executed.Given as goal

-- the parts that are left decide
abbrev pub invariant-loop-number : goal.invariant-loop-number
invariant-loop-number l =
    list_any (runs_at l.address) (drop l.number l.image.parts) ≡ list_any (runs_at l.address) l.image.parts

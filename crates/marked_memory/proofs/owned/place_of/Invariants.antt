-- None so far is it.
use Rattle.std.proofs.Common.{◌≡◌, ◌+◌, drop}
use Rattle.std.specs.List.{position_or_len}
use Rattle.marked_memory.specs.Owners.{is_owner}
use Rattle.marked_memory.proofs.owned.place_of.Given as goal

abbrev pub invariant-loop-index : goal.invariant-loop-index
invariant-loop-index l =
    position_or_len (λ x. is_owner l.kind l.instance x.owner) l.owned
    ≡ l.index + position_or_len (λ x. is_owner l.kind l.instance x.owner) (drop l.index l.owned)

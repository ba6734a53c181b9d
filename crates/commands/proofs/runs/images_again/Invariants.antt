use Rattle.std.proofs.Common.{◌≡◌, map}
use Rattle.commands.specs.Runs.{read_back}
use Rattle.commands.proofs.runs.images_again.Given as goal

abbrev pub invariant-loop-linked : goal.invariant-loop-linked
invariant-loop-linked l = (l.images.items ≡ map read_back l.yielded)
    × (l.images.items ≡ map (λ linked. linked.image) l.yielded)

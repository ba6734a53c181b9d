use Rattle.std.proofs.Common.{◌≡◌, ◌++◌, drop}
use Rattle.placed_sections.specs.Files.{placed_from}
use Rattle.placed_sections.proofs.placing.push_objects.Given as goal

-- with the objects that are left it is whole
abbrev pub invariant-loop-number : goal.invariant-loop-number
invariant-loop-number l =
    l.parts.items ++ placed_from (λ part. part) l.placement l.class l.number (drop l.number l.objects)
    ≡ l.fn.parts.items ++ placed_from (λ part. part) l.placement l.class 0 l.objects

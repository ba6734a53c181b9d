use Rattle.std.proofs.Common.{◌≡◌, ◌++◌, take, codes}
use Rattle.std.specs.List.{flat_map}
use Rattle.std.specs.Fmt.{decimal}
use Rattle.std.specs.String.{string_bytes}
use Rattle.transcript_text.proofs.text.push_points.Given as goal

-- the points so far, each behind a comma
abbrev pub invariant-loop-point : goal.invariant-loop-point
invariant-loop-point l =
    string_bytes l.text ≡ string_bytes l.initial.text
    ++ flat_map (λ q. codes "," ++ decimal q) (take l.point-index l.more)

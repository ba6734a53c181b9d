-- the pieces so far have at most that many bytes, and together so many
use Rattle.std.proofs.Common.{◌≡◌, length, take, ◌≤◌}
use Rattle.std.specs.List.{AllWithin}
use Rattle.file_bytes.specs.Pieces.{joined}
use Rattle.file_bytes.proofs.runs.largest.Given as goal

abbrev pub invariant-loop-number : goal.invariant-loop-number
invariant-loop-number g l =
    AllWithin (λ piece. length piece ≤ l.most) (g.P.Pieces.view l.pieces).pieces 0 l.number
    × (l.start ≡ length (joined (take l.number (g.P.Pieces.view l.pieces).pieces)))

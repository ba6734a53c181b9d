-- the writer has taken the pieces before `from`
use Rattle.std.proofs.Common.{◌≡◌, length, take, ◌-◌, ◌≤◌}
use Rattle.std.specs.Io.KnownBytes.{Appends}
use Rattle.file_bytes.specs.Pieces.{joined}
use Rattle.file_bytes.proofs.runs.write_runs.Given as goal

abbrev pub invariant-loop-from : goal.invariant-loop-from
invariant-loop-from g l = (length l.buffer ≡ length l.initial.buffer)
    × (l.from ≤ length (g.P.Pieces.view l.pieces).pieces)
    × Appends (g.W.Write.contents l.initial.to) (g.W.Write.contents l.to)
    (joined (take l.from (g.P.Pieces.view l.pieces).pieces))

abbrev pub decreases-loop-from : goal.decreases-loop-from
decreases-loop-from g l = length (g.P.Pieces.view l.pieces).pieces - l.from

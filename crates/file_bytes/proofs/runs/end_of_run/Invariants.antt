-- the run so far fits
use Rattle.std.proofs.Common.{length, slice_range, ◌-◌, ◌<◌, ◌≤◌}
use Rattle.file_bytes.specs.Pieces.{joined}
use Rattle.file_bytes.proofs.runs.end_of_run.Given as goal

abbrev pub invariant-loop-to : goal.invariant-loop-to
invariant-loop-to g l = (l.from < l.to) × (l.to ≤ length (g.P.Pieces.view l.pieces).pieces)
    × (length (joined (slice_range (g.P.Pieces.view l.pieces).pieces l.from l.to)) ≤ l.room)

abbrev pub decreases-loop-to : goal.decreases-loop-to
decreases-loop-to g l = length (g.P.Pieces.view l.pieces).pieces - l.to

-- what the reader lost stands behind what was there, and has used up that much room
use Rattle.std.proofs.Common.{◌≡◌, ℕ, ◌+◌, List, ◌++◌, length}
use Rattle.std.specs.Io.KnownBytes.{Consumes}
use Rattle.file_bytes.proofs.streams.read_rest.Given as goal

abbrev pub invariant-loop-count : goal.invariant-loop-count
invariant-loop-count g l = (done : List ℕ) × (l.into.items ≡ l.initial.into.items ++ done)
    × (length done + l.room ≡ l.initial.room)
    × Consumes (g.R.Read.remaining l.initial.from) (g.R.Read.remaining l.from) done

abbrev pub decreases-loop-count : goal.decreases-loop-count
decreases-loop-count g l = l.room

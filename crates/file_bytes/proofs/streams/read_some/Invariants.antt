-- a read that was interrupted has taken nothing from the reader
use Rattle.std.proofs.Common.{◌≡◌, length}
use Rattle.std.specs.Io.KnownBytes.{Keeps}
use Rattle.file_bytes.proofs.streams.read_some.Given as goal

abbrev pub invariant-loop : goal.invariant-loop
invariant-loop g l = (length l.buffer ≡ length l.initial.buffer)
    × Keeps (g.R.Read.remaining l.initial.from) (g.R.Read.remaining l.from)

use Rattle.std.proofs.Common.{sym}
use Rattle.thread_space.proofs.Entries.{entry_low}
use Rattle.thread_space.proofs.names.entry_place.Goals as goal

pub returns-clause-low : goal.returns-clause-low
returns-clause-low c =
    entry_low c.args.names.now (rw c.image.ensures at c.image_is_spelled.ensures) c.args.name.now c.in_ok-place.place
    (sym c.in_ok-place.ensures)

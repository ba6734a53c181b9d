-- The bytes stay, at the place where a load puts them.
use Rattle.std.proofs.Common.{◌∙◌, sym}
use Rattle.marked_memory.specs.Spaces.{fills}
use Rattle.marked_memory.proofs.Takes.{data_kept}
use Rattle.marked_memory.proofs.space.MarkedMemory.data_after.Goals as goal

pub returns-in-Some-data_start-clause-shared : goal.returns-in-Some-data_start-clause-shared
returns-in-Some-data_start-clause-shared c =
    data_kept c.args.instance.now c.in-Some.bytes c.in-Some-data_start.start c.args.self.now.images
    (fills c.args.wanted) c.args.pool.now
    (sym c.fills.ensures ∙ c.if-fills.false)
    (sym c.take_bytes-held.ensures.bytes ∙ c.in-Some.is)
    (sym c.data_start.ensures ∙ c.in-Some-data_start.is)

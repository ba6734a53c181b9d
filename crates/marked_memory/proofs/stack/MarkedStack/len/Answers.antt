-- All bytes are counted.
use Rattle.std.proofs.Common.{◌∙◌, List, length, ap, sym}
use Rattle.job_meaning.specs.declared.values.Byte.{Byte}
use Rattle.marked_memory.proofs.Stacks.{long}
use Rattle.marked_memory.proofs.stack.MarkedStack.len.Goals as goal

pub returns : goal.returns
returns c =
    sym (long c.self.inside.size c.self.inside.deep c.self.inside.top.items c.self.invariant.within)
    ∙ ap (λ (xs : List Byte). length xs) c.self.view_is

-- The stack alone changes.
use Rattle.std.proofs.Common.{◌-◌, ap}
use Rattle.address_map.specs.Map.{stack_start}
use Rattle.whole_meaning.specs.Threads.{hidden_below}
use Rattle.marked_memory.specs.Kept.{Kept}
use Rattle.marked_memory.specs.Spaces.{with_hidden}
use Rattle.marked_memory.proofs.space.MarkedMemory.forget.Goals as goal

pub returns : goal.returns
unfolding with_hidden
returns c =
    rw (c.hide.ensures, c.saturating_sub.ensures, c.stack_start-start.ensures)
    (ap (λ (k : Kept). record k { stack = hidden_below (c.args.place - stack_start k.thread) k.stack }) c.self.view_is)

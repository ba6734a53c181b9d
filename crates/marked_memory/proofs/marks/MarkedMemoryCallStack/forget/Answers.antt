-- The stack alone changes.
use Rattle.std.proofs.Common.{[], ap}
use Rattle.address_map.specs.Map.{stack_start}
use Rattle.marked_memory.specs.Kept.{Kept, shape_of}
use Rattle.marked_memory.specs.Spaces.{with_hidden}
use Rattle.marked_memory.proofs.SpaceImages.{space_at}
use Rattle.marked_memory.proofs.marks.MarkedMemoryCallStack.forget.Goals as goal

pub returns-clause-memory : goal.returns-clause-memory
unfolding with_hidden
returns-clause-memory c = ap (space_at []) c.forget.ensures

pub returns-clause-start : goal.returns-clause-start
unfolding with_hidden
returns-clause-start c = ap (λ (k : Kept). stack_start k.thread) c.forget.ensures

pub returns-clause-rest : goal.returns-clause-rest
unfolding with_hidden shape_of
returns-clause-rest c = ap shape_of c.forget.ensures

-- The return address is kept, and zeros lie below.
use Rattle.std.proofs.Common.{◌∙◌, List, ap}
use Rattle.job_meaning.specs.declared.values.Byte.{Byte}
use Rattle.job_meaning.specs.declared.values.Byte.TheVariants.{Value}
use Rattle.marked_memory.specs.Stacks.{stack_of}
use Rattle.marked_memory.proofs.Stacks.{fresh}
use Rattle.marked_memory.proofs.stack.MarkedStack.renew.Goals as goal

pub returns-clause-renewed : goal.returns-clause-renewed
returns-clause-renewed c = ap (λ (xs : List Byte). stack_of 65536 (Value 0) xs) c.keep_last.ensures.items ∙ fresh

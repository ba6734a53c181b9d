-- The stack takes the byte, or a range of its own.
use Rattle.std.proofs.Common.{◌∙◌, ◌-◌, ap, sym}
use Rattle.std.specs.Prelude.{slice_set}
use Rattle.address_map.specs.Map.{stack_start}
use Rattle.marked_memory.specs.Kept.{memory_of, shape_of}
use Rattle.marked_memory.proofs.Writes.{own_shape, own_written, stack_shape, stack_written}
use Rattle.marked_memory.proofs.bytes.MarkedMemoryBytesMarkedValues.write.Goals as goal

pub returns-then-is_stack-clause-written : goal.returns-then-is_stack-clause-written
returns-then-is_stack-clause-written c =
    ap memory_of c.set_stack_byte.ensures
    ∙ stack_written c.args.self.now c.args.place c.args.byte (sym c.is_stack.ensures ∙ c.if-is_stack.true)

pub returns-then-is_stack-clause-rest : goal.returns-then-is_stack-clause-rest
returns-then-is_stack-clause-rest c =
    ap shape_of c.set_stack_byte.ensures
    ∙ stack_shape c.args.self.now c.args.place c.args.byte
    (slice_set c.args.self.now.stack (c.args.place - stack_start c.args.self.now.thread) c.args.byte)

pub returns-else-is_stack-clause-written : goal.returns-else-is_stack-clause-written
returns-else-is_stack-clause-written c =
    ap memory_of c.set_own_byte.ensures
    ∙ own_written c.args.self.now c.args.place c.args.byte (sym c.is_stack.ensures ∙ c.if-is_stack.false)

pub returns-else-is_stack-clause-rest : goal.returns-else-is_stack-clause-rest
returns-else-is_stack-clause-rest c =
    ap shape_of c.set_own_byte.ensures ∙ own_shape c.args.self.now c.args.place c.args.byte

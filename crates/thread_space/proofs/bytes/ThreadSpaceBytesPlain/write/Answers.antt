-- The first part of the memory that takes the byte changes.
use Rattle.std.proofs.Common.{◌∙◌, ◌-◌, ap, sym}
use Rattle.std.specs.Prelude.{slice_set}
use Rattle.address_map.specs.Map.{stack_start}
use Rattle.thread_space.specs.Kept.{memory_of, shape_of}
use Rattle.thread_space.proofs.ShapeKept.{stack_shape}
use Rattle.thread_space.proofs.WriteKept.{write_none, write_stack}
use Rattle.thread_space.proofs.Written.{IsWritten, block_is_written, block_takes, data_is_written, data_takes}
use Rattle.thread_space.proofs.bytes.ThreadSpaceBytesPlain.write.Goals as goal

pub set_block_byte-requires : goal.set_block_byte-requires
set_block_byte-requires c =
    block_takes c.args.self.now c.args.self.now c.args.place c.args.byte c.in-Some.instance c.history_is_lawful.ensures
    (sym c.is_on_stack.ensures ∙ c.if-is_on_stack.false) (sym c.block_at.ensures ∙ c.in-Some.is)

pub set_data_byte-requires : goal.set_data_byte-requires
set_data_byte-requires c =
    data_takes c.args.self.now c.args.self.now c.args.place c.args.byte c.in-Some-data_at.instance c.history_is_lawful.ensures
    (sym c.is_on_stack.ensures ∙ c.if-is_on_stack.false) (sym c.data_at.ensures ∙ c.in-Some-data_at.is)

pub returns-then-is_on_stack-clause-written : goal.returns-then-is_on_stack-clause-written
returns-then-is_on_stack-clause-written c =
    ap memory_of c.set_stack_byte.ensures
    ∙ write_stack c.args.self.now c.args.place c.args.byte (sym c.is_on_stack.ensures ∙ c.if-is_on_stack.true)

pub returns-then-is_on_stack-clause-rest : goal.returns-then-is_on_stack-clause-rest
returns-then-is_on_stack-clause-rest c =
    ap shape_of c.set_stack_byte.ensures
    ∙ stack_shape c.args.self.now
    (slice_set c.args.self.now.stack (c.args.place - stack_start c.args.self.now.vector.thread) c.args.byte)

in_block : (c : goal.After-set_block_byte)
    → IsWritten c.args.self.now c.args.place c.args.byte c.set_block_byte.new.self
in_block c =
    block_is_written c.args.self.now c.set_block_byte.new.self c.args.place c.args.byte c.in-Some.instance c.history_is_lawful.ensures
    (sym c.is_on_stack.ensures ∙ c.if-is_on_stack.false)
    (sym c.block_at.ensures ∙ c.in-Some.is) c.set_block_byte.ensures

pub returns-in-Some-clause-written : goal.returns-in-Some-clause-written
returns-in-Some-clause-written c = (in_block c).memory

pub returns-in-Some-clause-rest : goal.returns-in-Some-clause-rest
returns-in-Some-clause-rest c = (in_block c).shape

in_data : (c : goal.After-set_data_byte) → IsWritten c.args.self.now c.args.place c.args.byte c.set_data_byte.new.self
in_data c =
    data_is_written c.args.self.now c.set_data_byte.new.self c.args.place c.args.byte c.in-Some-data_at.instance c.history_is_lawful.ensures
    (sym c.is_on_stack.ensures ∙ c.if-is_on_stack.false) (sym c.block_at.ensures ∙ c.in_default.is)
    (sym c.data_at.ensures ∙ c.in-Some-data_at.is) c.set_data_byte.ensures

pub returns-in-Some-data_at-clause-written : goal.returns-in-Some-data_at-clause-written
returns-in-Some-data_at-clause-written c = (in_data c).memory

pub returns-in-Some-data_at-clause-rest : goal.returns-in-Some-data_at-clause-rest
returns-in-Some-data_at-clause-rest c = (in_data c).shape

pub returns-in_default-data_at-clause-written : goal.returns-in_default-data_at-clause-written
returns-in_default-data_at-clause-written c =
    write_none c.args.self.now c.args.place c.args.byte (sym c.is_on_stack.ensures ∙ c.if-is_on_stack.false)
    (sym c.block_at.ensures ∙ c.in_default.is) (sym c.data_at.ensures ∙ c.in_default-data_at.is)

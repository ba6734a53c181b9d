use Rattle.std.proofs.Common.{refl}
use Rattle.marked_memory.specs.Kept.{memory_of}
use Rattle.job_check.proofs.PlainSteps.{may_write_else, may_write_then}
use Rattle.job_check.proofs.plain.+may_write_all.Goals as goal

pub returns-then-may_write : goal.returns-then-may_write
returns-then-may_write t c =
    may_write_then (memory_of c.args.space.now) c.args.place c.args.size _ _ c.may_write.result c.may_write_all.result
    c.if-size-eq0.false refl refl c.may_write.ensures c.may_write_all.ensures c.if-may_write.true

pub returns-else-may_write : goal.returns-else-may_write
returns-else-may_write t c =
    may_write_else (memory_of c.args.space.now) c.args.place c.args.size c.may_write.result c.if-size-eq0.false c.may_write.ensures c.if-may_write.false

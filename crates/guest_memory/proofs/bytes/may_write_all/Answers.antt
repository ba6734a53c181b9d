use Rattle.std.proofs.Common.{sym, ◌∙◌, arith}
use Rattle.guest_memory.proofs.Loops.{writable-more, writable-not, writable-all}
use Rattle.guest_memory.proofs.bytes.may_write_all.Goals as goal

pub returns-then-not-may_write : goal.returns-then-not-may_write
returns-then-not-may_write g c =
    sym (writable-not (g.M.Bytes.memory c.args.memory.now).ranges c.args.place c.args.size c.loop-index.at c.loop-index._index c.loop-index-test.true
    (sym c.may_write.ensures ∙ c.if-not-may_write.true) c.loop-index.invariant)

pub loop-index-preserved : goal.loop-index-preserved
loop-index-preserved g c =
    writable-more (g.M.Bytes.memory c.args.memory.now).ranges c.args.place c.args.size c.loop-index.at c.loop-index._index c.loop-index-test.true
    (sym c.may_write.ensures ∙ c.if-not-may_write.false) c.loop-index.invariant

pub returns : goal.returns
returns g c =
    sym (writable-all (g.M.Bytes.memory c.args.memory.now).ranges c.args.place c.args.size c.loop-index.at c.loop-index._index (omega arith) c.loop-index.invariant)

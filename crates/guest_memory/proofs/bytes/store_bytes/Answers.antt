use Rattle.std.proofs.Common.{refl, sym, ap, Ok, ◌∙◌, arith}
use Rattle.guest_memory.proofs.Loops.{store-more, store-all}
use Rattle.guest_memory.proofs.Several.{store_of-not, store_of-all}
use Rattle.guest_memory.proofs.bytes.store_bytes.Goals as goal

pub returns-then-not-may_write_all-clause-stores : goal.returns-then-not-may_write_all-clause-stores
returns-then-not-may_write_all-clause-stores g c = (
  store_of-not g.V.Values.operations (g.M.Bytes.memory c.args.memory.now) c.args.place c.args.size c.args.word
      (sym c.may_write_all.ensures ∙ c.if-not-may_write_all.true),
  refl,
)

pub loop-index-preserved : goal.loop-index-preserved
loop-index-preserved g c = record {
  stored =
      store-more g.V.Values.operations (g.M.Bytes.memory c.args.memory.now) c.args.place c.args.size c.args.word
      (g.M.Bytes.memory c.loop-index.memory) (g.M.Bytes.memory c.write.new.self)
      c.loop-index.at c.loop-index.index c.loop-index-test.true
      (rw c.byte_of.ensures at c.write.ensures.written) c.loop-index.invariant.stored;
  rest = c.write.ensures.rest ∙ c.loop-index.invariant.rest;
}

pub returns-clause-stores : goal.returns-clause-stores
returns-clause-stores g c =
    store_of-all g.V.Values.operations (g.M.Bytes.memory c.args.memory.now) c.args.place c.args.size c.args.word
    (sym c.may_write_all.ensures ∙ c.if-not-may_write_all.false)
    ∙ ap Ok (sym (store-all g.V.Values.operations
    (g.M.Bytes.memory c.args.memory.now) c.args.place c.args.size c.args.word (g.M.Bytes.memory c.loop-index.memory)
    c.loop-index.at c.loop-index.index (omega arith) c.loop-index.invariant.stored))

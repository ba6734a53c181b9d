use Rattle.std.proofs.Common.{◌<◌, sym, ◌∙◌, length, length-set, arith}
use Rattle.guest_memory.proofs.Loops.{fetch-start, fetch-more, fetch-none, fetch-all, no-byte, no-code, front_length}
use Rattle.guest_memory.proofs.bytes.fetch.Goals as goal

pub loop-index-init : goal.loop-index-init
loop-index-init g c = record {
  fetched = fetch-start g.V.Values.operations (g.M.Bytes.memory c.args.memory.now) c.args.place c.args.into.now;
  room = c.told-into;
}

pub returns-in-None-clause-bytes : goal.returns-in-None-clause-bytes
returns-in-None-clause-bytes g c =
    fetch-none g.V.Values.operations
    (g.M.Bytes.memory c.args.memory.now) c.args.place c.loop-index.into c.loop-index.at c.loop-index.index c.loop-index-test.true
    (no-byte g.V.Values.operations.code _ (sym c.run.ensures ∙ c.in-None.is)) c.loop-index.invariant.fetched

pub returns-in-None-clause-count : goal.returns-in-None-clause-count
returns-in-None-clause-count g c =
    front_length c.loop-index.index c.loop-index.into _ (omega arith) (returns-in-None-clause-bytes g c)

pub returns-in-None-code-clause-bytes : goal.returns-in-None-code-clause-bytes
returns-in-None-code-clause-bytes g c =
    fetch-none g.V.Values.operations
    (g.M.Bytes.memory c.args.memory.now) c.args.place c.loop-index.into c.loop-index.at c.loop-index.index c.loop-index-test.true
    (no-code g.V.Values.operations.code _ c.in-Some.byte (sym c.run.ensures ∙ c.in-Some.is)
    (sym c.code.ensures ∙ c.in-None-code.is)) c.loop-index.invariant.fetched

pub returns-in-None-code-clause-count : goal.returns-in-None-code-clause-count
returns-in-None-code-clause-count g c =
    front_length c.loop-index.index c.loop-index.into _ (omega arith) (returns-in-None-code-clause-bytes g c)

pub loop-index-preserved : goal.loop-index-preserved
loop-index-preserved g c =
    let room : c.loop-index.index < length c.loop-index.into = omega arith in
    rw c.from.ensures (record {
      fetched = fetch-more g.V.Values.operations
          (g.M.Bytes.memory c.args.memory.now) c.args.place c.loop-index.into c.loop-index.at c.loop-index.index c.in-Some-code.code c.in-Some.byte
          c.loop-index-test.true room (sym c.run.ensures ∙ c.in-Some.is)
          (sym c.code.ensures ∙ c.in-Some-code.is) c.loop-index.invariant.fetched;
      room = length-set c.loop-index.into c.loop-index.index c.in-Some-code.code ∙ c.loop-index.invariant.room;
    })

pub returns-clause-bytes : goal.returns-clause-bytes
returns-clause-bytes g c =
    fetch-all g.V.Values.operations
    (g.M.Bytes.memory c.args.memory.now) c.args.place c.loop-index.into c.loop-index.at c.loop-index.index
    (omega arith) c.loop-index.invariant.fetched

pub returns-clause-count : goal.returns-clause-count
returns-clause-count g c = front_length 15 c.loop-index.into _ (omega arith) (returns-clause-bytes g c)

use Rattle.std.proofs.Common.{rules, refl}
use Rattle.ports.proofs.memory.sink.MemorySinkSink.put.Goals as goal

-- the call that fails has appended its part
pub returns-clause-puts : goal.returns-clause-puts
returns-clause-puts c = record {
  bytes = (c.args.self.now.part, search rules);
  pieces = refl;
  faults = search rules;
  shortages = search rules;
}

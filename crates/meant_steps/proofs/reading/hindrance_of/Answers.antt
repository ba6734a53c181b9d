use Rattle.std.proofs.Common.{rules}
use Rattle.meant_steps.proofs.reading.hindrance_of.Goals as goal
use Rattle.meant_steps.proofs.reading.hindrance_of.Goals.{then-byte-k-2, else-byte-k-2}

pub returns-after-byte-k-2 : goal.returns-after-byte-k-2
returns-after-byte-k-2 g c = elim c.if-byte-k-2.branch [
  | then-byte-k-2 w ↦
      let e = w.takes_address.ensures (g.M.Marks.mark c.args.marks.now) c.args.state.now in search rules
  | else-byte-k-2 w ↦ search rules
]

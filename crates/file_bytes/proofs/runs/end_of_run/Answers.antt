use Rattle.std.proofs.Common.{arith}
use Rattle.file_bytes.proofs.PieceLemmas.{one_fits}
use Rattle.file_bytes.proofs.runs.end_of_run.Goals as goal

pub loop-to-init : goal.loop-to-init
loop-to-init g c = (
  omega arith,
  omega (arith, c.requires.begins),
  one_fits _ c.args.room c.args.from c.requires.room c.requires.begins,
)

use Rattle.std.proofs.Common.{arith}
use Rattle.file_bytes.proofs.PieceLemmas.{size_more}
use Rattle.file_bytes.proofs.runs.size.Goals as goal

pub overflow_sub-result : goal.overflow_sub-result
overflow_sub-result g c =
    omega (
      arith,
      c.start.ensures,
      c.requires.start,
      size_more (g.P.Pieces.view c.args.pieces.now).pieces c.args.from c.args.to c.requires.order.0,
    )

pub returns : goal.returns
returns g c =
    omega (
      arith,
      c.start.ensures,
      c.requires.start,
      size_more (g.P.Pieces.view c.args.pieces.now).pieces c.args.from c.args.to c.requires.order.0,
    )

use Rattle.std.proofs.Common.{arith, subst, sym, ◌∙◌}
use Rattle.std.proofs.KnownBytes.{Appends-trans}
use Rattle.std.specs.Io.KnownBytes.{Appends}
use Rattle.file_bytes.specs.Streams.{AppendsFront}
use Rattle.file_bytes.proofs.PieceLemmas.{joined_more, joined_split}
use Rattle.file_bytes.proofs.StreamLemmas.{AppendsFront-next, AppendsFront-more, OnErr-always}
use Rattle.file_bytes.proofs.runs.write_runs.Goals as goal

pub returns-in_err-write_run-clause-err : goal.returns-in_err-write_run-clause-err
returns-in_err-write_run-clause-err g c =
    let pieces = (g.P.Pieces.view c.args.pieces.now).pieces in
    let from = c.loop-from.from in
    let end = c.end_of_run-end.result in
    OnErr-always c.from_residual.result
    (subst (AppendsFront _ _) (sym (joined_split pieces from end (omega (arith, c.end_of_run-end.ensures.order))))
    (AppendsFront-next _ _ _ _ _ c.loop-from.invariant.2 (AppendsFront-more _ _ _ _ c.in_err-write_run.ensures.err)))

pub loop-from-preserved : goal.loop-from-preserved
loop-from-preserved g c =
    let pieces = (g.P.Pieces.view c.args.pieces.now).pieces in
    let from = c.loop-from.from in
    let end = c.end_of_run-end.result in (
      c.write_run.ensures.size ∙ c.loop-from.invariant.0,
      c.end_of_run-end.ensures.order.1,
      subst (Appends _ _) (sym (joined_more pieces from end (omega (arith, c.end_of_run-end.ensures.order))))
          (Appends-trans _ _ _ _ _ c.loop-from.invariant.2 c.in_ok-write_run.ensures.ok),
    )

use Rattle.file_bytes.proofs.StreamLemmas.{AppendsFront-next, AppendsFront-more, OnErr-always, OnErr-then}
use Rattle.file_bytes.proofs.runs.write_pieces.Goals as goal

pub returns-in_err-write_all-clause-err : goal.returns-in_err-write_all-clause-err
returns-in_err-write_all-clause-err g c =
    let front = rw c.front.ensures at c.in_err-write_all.ensures.err in
    OnErr-always c.from_residual.result (AppendsFront-more _ _ _ _ front)

pub returns-in_err-write_runs-clause-err : goal.returns-in_err-write_runs-clause-err
returns-in_err-write_runs-clause-err g c =
    let front = rw c.front.ensures at c.in_ok-write_all.ensures.ok in
    OnErr-always c.from_residual-in_err-write_runs.result
    (AppendsFront-next _ _ _ _ _ front (AppendsFront-more _ _ _ _ c.in_err-write_runs.ensures.err))

pub returns-clause-err : goal.returns-clause-err
returns-clause-err g c =
    let front = rw c.front.ensures at c.in_ok-write_all.ensures.ok in
    OnErr-then c.write_all-2.result c.write_all-2.ensures.err (λ last.
    AppendsFront-next _ _ _ _ _ front
    (AppendsFront-next _ _ _ _ _ c.in_ok-write_runs.ensures.ok (rw c.back.ensures at last)))

use Rattle.file_bytes.proofs.StreamLemmas.{AppendsFront-whole, OnErr-always}
use Rattle.ports.proofs.host.sink.write_through.Goals as goal

-- where the flush fails, the whole piece has been written
pub returns-in_err-flush-clause-err : goal.returns-in_err-flush-clause-err
returns-in_err-flush-clause-err g c =
    OnErr-always c.from_residual-in_err-flush.result
    (AppendsFront-whole _ _ _ c.args.piece.now c.in_ok-write_all.ensures.ok c.in_err-flush.ensures.bytes)

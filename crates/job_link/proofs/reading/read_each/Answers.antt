use Rattle.std.proofs.Common.{◌∙◌}
use Rattle.rayon.proofs.ListFacts.{IfOk-then}
use Rattle.rayon.proofs.ToStd.{slice-AllZip}
use Rattle.job_link.specs.Mentions.{bytes_in}
use Rattle.job_link.specs.Reads.{IsReading}
use Rattle.job_link.proofs.reading.read_each.Goals as goal

pub returns : goal.returns
returns g c =
    IfOk-then c.collect.result _ _ c.collect.ensures (λ v h.
    let chain = rw (c.map.ensures.base, c.map.ensures.f, c.with_min_len.ensures.base) at h.1 in
    rw h.2 (slice-AllZip chain.0 c.args.names.now (chain.1 ∙ c.par_iter.ensures)
    (IsReading c.args.writable (bytes_in c.args.files.now)) h.0 chain.2))

use Rattle.std.proofs.Common.{◌^◌, ap, arith}
use Rattle.std.proofs.lemmas.Result.{err_from_is_err_and}
use Rattle.tls_layout.specs.declared.extent.Extent.{Extent}
use Rattle.tls_layout.proofs.Together.{are_offsets, is_tls_size, tls_beyond_initial, tls_beyond}
use Rattle.tls_layout.proofs.tls_places.lay_out_tls.Goals as goal

pub returns-in_err-initial-clause-beyond : goal.returns-in_err-initial-clause-beyond
returns-in_err-initial-clause-beyond c =
    let p = err_from_is_err_and c.from_residual.result c.from_residual.ensures.1 in
    let is = c.in_err-initial.ensures.beyond in
    rw (p.1, p.2) (is.0, tls_beyond_initial c.args.sections.now (2 ^ 20) is.1)

pub returns-in_err-zero-clause-beyond : goal.returns-in_err-zero-clause-beyond
returns-in_err-zero-clause-beyond c =
    let p = err_from_is_err_and c.from_residual-in_err-zero.result c.from_residual-in_err-zero.ensures.1 in
    let is = c.in_err-zero.ensures.beyond in
    rw (p.1, p.2) (is.0, tls_beyond c.args.sections.now (2 ^ 20) _ c.in_ok-initial.ensures.extent.0 is.1)

pub returns-clause-size : goal.returns-clause-size
returns-clause-size c =
    (is_tls_size _ _ _ c.in_ok-initial.ensures.extent.0 c.in_ok-zero.ensures.extent.0, c.in_ok-zero.ensures.extent.1)

pub returns-clause-offsets : goal.returns-clause-offsets
returns-clause-offsets c =
    are_offsets _ _ _ _ _ (omega arith) c.requires.none
    (ap (λ (x : Extent). x.end) c.in_ok-initial.ensures.extent.0) c.in_ok-initial.ensures.places c.in_ok-zero.ensures.places

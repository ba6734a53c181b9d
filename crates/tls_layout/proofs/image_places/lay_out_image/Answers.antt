use Rattle.std.proofs.Common.{refl, sym, ap, ◌∙◌, arith}
use Rattle.std.proofs.lemmas.Result.{err_from_is_err_and}
use Rattle.tls_layout.specs.declared.extent.Extent.{Extent}
use Rattle.tls_layout.specs.Rounding.{page_up}
use Rattle.tls_layout.proofs.Together.{is_executable, is_read_only, is_tls_image, is_initial_data, is_zero_data, ascend}
use Rattle.tls_layout.proofs.Together.{rise, span_beyond, before_last, limit_kept, are_addresses}
use Rattle.tls_layout.proofs.image_places.lay_out_image.Goals as goal

pub returns-in_err-executable-clause-beyond : goal.returns-in_err-executable-clause-beyond
returns-in_err-executable-clause-beyond c =
    let k = c.args.kind in
    let s = c.args.sections.now in
    let p = err_from_is_err_and c.from_residual.result c.from_residual.ensures.1 in
    let is = c.in_err-executable.ensures.beyond in
    rw (p.1, p.2) (
      is.0,
      span_beyond k s _ _ c.base-base.ensures is.1
          (before_last k s _ _ _ _ (is_executable k s _ _ c.base-base.ensures refl) (ascend k s).to_read_only),
    )

pub lay_out-requires-2-clause-within : goal.lay_out-requires-2-clause-within
lay_out-requires-2-clause-within c =
    limit_kept c.args.kind _ _ _ c.base-base.ensures c.in_ok-executable.ensures.extent.1 c.page_up-constants.ensures.page

pub returns-in_err-read_only-clause-beyond : goal.returns-in_err-read_only-clause-beyond
returns-in_err-read_only-clause-beyond c =
    let k = c.args.kind in
    let s = c.args.sections.now in
    let exe = is_executable k s _ _ c.base-base.ensures c.in_ok-executable.ensures.extent.0 in
    let p = err_from_is_err_and c.from_residual-in_err-read_only.result c.from_residual-in_err-read_only.ensures.1 in
    let is = c.in_err-read_only.ensures.beyond in
    rw (p.1, p.2) (
      is.0,
      span_beyond k s _ _ c.base-base.ensures is.1
          (before_last k s _ _ _ _ (is_read_only k s _ _ _ exe c.page_up-constants.ensures.page refl)
          (ascend k s).to_tls),
    )

pub lay_out-requires-3-clause-within : goal.lay_out-requires-3-clause-within
lay_out-requires-3-clause-within c =
    limit_kept c.args.kind _ _ _ c.base-base.ensures c.in_ok-read_only.ensures.extent.1 c.page_up-image.ensures.page

pub returns-in_err-tls-clause-beyond : goal.returns-in_err-tls-clause-beyond
returns-in_err-tls-clause-beyond c =
    let k = c.args.kind in
    let s = c.args.sections.now in
    let exe = is_executable k s _ _ c.base-base.ensures c.in_ok-executable.ensures.extent.0 in
    let ro = is_read_only k s _ _ _ exe c.page_up-constants.ensures.page c.in_ok-read_only.ensures.extent.0 in
    let p = err_from_is_err_and c.from_residual-in_err-tls.result c.from_residual-in_err-tls.ensures.1 in
    let is = c.in_err-tls.ensures.beyond in
    rw (p.1, p.2) (
      is.0,
      span_beyond k s _ _ c.base-base.ensures is.1
          (before_last k s _ _ _ _ (is_tls_image k s _ _ _ ro c.page_up-image.ensures.page refl) (ascend k s).to_data),
    )

pub lay_out-requires-4-clause-within : goal.lay_out-requires-4-clause-within
lay_out-requires-4-clause-within c =
    limit_kept c.args.kind _ _ _ c.base-base.ensures c.in_ok-tls.ensures.extent.1 c.page_up-data.ensures.page

pub returns-in_err-initial-clause-beyond : goal.returns-in_err-initial-clause-beyond
returns-in_err-initial-clause-beyond c =
    let k = c.args.kind in
    let s = c.args.sections.now in
    let exe = is_executable k s _ _ c.base-base.ensures c.in_ok-executable.ensures.extent.0 in
    let ro = is_read_only k s _ _ _ exe c.page_up-constants.ensures.page c.in_ok-read_only.ensures.extent.0 in
    let tls = is_tls_image k s _ _ _ ro c.page_up-image.ensures.page c.in_ok-tls.ensures.extent.0 in
    let p = err_from_is_err_and c.from_residual-in_err-initial.result c.from_residual-in_err-initial.ensures.1 in
    let is = c.in_err-initial.ensures.beyond in
    rw (p.1, p.2) (
      is.0,
      span_beyond k s _ _ c.base-base.ensures is.1
          (before_last k s _ _ _ _ (is_initial_data k s _ _ _ tls c.page_up-data.ensures.page refl)
          (ascend k s).to_zero),
    )

pub returns-in_err-zero-clause-beyond : goal.returns-in_err-zero-clause-beyond
returns-in_err-zero-clause-beyond c =
    let k = c.args.kind in
    let s = c.args.sections.now in
    let exe = is_executable k s _ _ c.base-base.ensures c.in_ok-executable.ensures.extent.0 in
    let ro = is_read_only k s _ _ _ exe c.page_up-constants.ensures.page c.in_ok-read_only.ensures.extent.0 in
    let tls = is_tls_image k s _ _ _ ro c.page_up-image.ensures.page c.in_ok-tls.ensures.extent.0 in
    let written = is_initial_data k s _ _ _ tls c.page_up-data.ensures.page c.in_ok-initial.ensures.extent.0 in
    let p = err_from_is_err_and c.from_residual-in_err-zero.result c.from_residual-in_err-zero.ensures.1 in
    let is = c.in_err-zero.ensures.beyond in
    rw (p.1, p.2) (
      is.0,
      span_beyond k s _ _ c.base-base.ensures is.1
          (before_last k s _ _ _ _ (is_zero_data k s _ _ written refl) (omega arith)),
    )

pub returns-clause-extents : goal.returns-clause-extents
returns-clause-extents c =
    let k = c.args.kind in
    let s = c.args.sections.now in
    let exe = is_executable k s _ _ c.base-base.ensures c.in_ok-executable.ensures.extent.0 in
    let ro = is_read_only k s _ _ _ exe c.page_up-constants.ensures.page c.in_ok-read_only.ensures.extent.0 in
    let tls = is_tls_image k s _ _ _ ro c.page_up-image.ensures.page c.in_ok-tls.ensures.extent.0 in
    let written = is_initial_data k s _ _ _ tls c.page_up-data.ensures.page c.in_ok-initial.ensures.extent.0 in
    let zero = is_zero_data k s _ _ written c.in_ok-zero.ensures.extent.0 in
    let start = ap (λ (x : Extent). x.start) written in
    let end = ap (λ (x : Extent). x.end) zero in
    record {
      executable_is = exe;
      read_only_is = ro;
      tls_is = tls;
      writable_is = rw (start, end) refl;
      small = rw (← c.base-base.ensures) c.in_ok-zero.ensures.extent.1;
    }

pub returns-clause-addresses : goal.returns-clause-addresses
returns-clause-addresses c =
    let k = c.args.kind in
    let s = c.args.sections.now in
    let exe = is_executable k s _ _ c.base-base.ensures c.in_ok-executable.ensures.extent.0 in
    let ro = is_read_only k s _ _ _ exe c.page_up-constants.ensures.page c.in_ok-read_only.ensures.extent.0 in
    let tls = is_tls_image k s _ _ _ ro c.page_up-image.ensures.page c.in_ok-tls.ensures.extent.0 in
    let written = is_initial_data k s _ _ _ tls c.page_up-data.ensures.page c.in_ok-initial.ensures.extent.0 in
    let zero = is_zero_data k s _ _ written c.in_ok-zero.ensures.extent.0 in
    let r = rise k s in
    are_addresses k s _ _ _ _ _ _ _ _ _ _ _ (omega arith) c.requires.none
    (c.base-base.ensures ∙ sym r.base)
    (c.page_up-constants.ensures.page ∙ (ap (λ (x : Extent). page_up x.end) exe ∙ sym r.constants))
    (c.page_up-image.ensures.page ∙ (ap (λ (x : Extent). page_up x.end) ro ∙ sym r.image))
    (c.page_up-data.ensures.page ∙ (ap (λ (x : Extent). page_up x.end) tls ∙ sym r.written))
    (ap (λ (x : Extent). x.end) written ∙ sym r.zeros)
    c.in_ok-executable.ensures.places c.in_ok-read_only.ensures.places c.in_ok-tls.ensures.places c.in_ok-initial.ensures.places c.in_ok-zero.ensures.places

use Rattle.std.proofs.Common.{◌≡◌, ◌∙◌, ◌+◌, ◌<◌, ◌∷◌, [], length, refl, zero-add, arith}
use Rattle.std.proofs.lemmas.List.{get_or_default}
use Rattle.tls_layout.specs.Rounding.{round_up}
use Rattle.tls_layout.specs.Statics.{tls_offset}
use Rattle.tls_layout.proofs.Rounds.{tls_offset-next}
use Rattle.link_core.proofs.ready.block_offset.Goals as goal

pub returns : goal.returns
unfolding tls_offset
returns c =
    let size = c.tls_size.result in
    let alignment = c.tls_alignment.result in
    let items = c.in_ok-offsets.offsets.items in
    let some : 0 < length items = omega (arith, c.in_ok-offsets.ensures.len) in
    let placed : c.index.result.now ≡ round_up (0 + size) alignment =
    c.index.ensures
    ∙ (get_or_default items 0 c.index.result.now 0 some
    ∙ (c.in_ok-offsets.ensures.offsets 0 (omega arith)
    ∙ tls_offset-next (record { size = size; alignment = alignment } ∷ []) 0)) in
    placed ∙ rw (zero-add, c.tls_size.ensures.size, c.tls_alignment.ensures.alignment) refl

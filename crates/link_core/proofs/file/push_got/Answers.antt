use Rattle.std.proofs.Common.{◌∙◌, ◌≡◌, ◌-◌, ◌++◌, length, arith, ap}
use Rattle.link_faults.specs.ImageKinds.{base_of}
use Rattle.got_pairs.specs.Needs.{total_size}
use Rattle.placed_sections.specs.Files.{offset_of}
use Rattle.tls_relocs.specs.Laid.{zeros}
use Rattle.link_core.specs.ByteLaws.{table_bytes}
use Rattle.link_needs.specs.Linking.{Linking, layout}
use Rattle.link_needs.specs.Needs.{got_size, got_start}
use Rattle.link_needs.specs.NeedLaws.{table}
use Rattle.link_core.proofs.WritingRoom.{stand_near}
use Rattle.link_core.proofs.WritingParts.{got_pushed, on_ok_then}
use Rattle.link_core.proofs.file.push_got.Goals as goal

pub place_in_file-place-requires-clause-from_base : goal.place_in_file-place-requires-clause-from_base
place_in_file-place-requires-clause-from_base c =
    let near = stand_near c.plan.inside.inputs c.plan.invariant.given c.plan.invariant.limits in
    omega (arith, near.above, c.plan.invariant.start_is, ap (λ (l : Linking). base_of l.kind) c.plan.view_is)

pub place_in_file-place-requires-clause-fits : goal.place_in_file-place-requires-clause-fits
place_in_file-place-requires-clause-fits c =
    let near = stand_near c.plan.inside.inputs c.plan.invariant.given c.plan.invariant.limits in
    omega (arith, near.after, near.near, c.plan.invariant.start_is)

pub pad-requires : goal.pad-requires
pad-requires c =
    let near = stand_near c.plan.inside.inputs c.plan.invariant.given c.plan.invariant.limits in
    omega (
      arith,
      near.after,
      near.near,
      c.plan.invariant.start_is,
      c.place_in_file-place.ensures,
      c.saturating_sub.ensures,
    )

pub returns : goal.returns
returns c =
    let l = c.args.plan.now in
    let start = c.args.start in
    let bytes = c.args.bytes.now.items in
    let got = c.plan.invariant.got_is ∙ ap table c.plan.view_is in
    let begins = c.plan.invariant.start_is ∙ ap got_start c.plan.view_is in
    let room = c.saturating_sub.ensures
    ∙ ap (λ n. n - start) (c.place_in_file-place.ensures ∙ ap (offset_of (layout l)) begins) in
    let size = c.size.ensures ∙ ap (λ t. total_size t.entries) got in
    let some = λ (none : got_size l ≡ 0). c.if-size-eq0.false (size ∙ none) in
    on_ok_then c.push_entries.result (λ e.
    e
    ∙ ap (λ items. items ++ table_bytes c.plan.inside.got) c.in_ok-pad.ensures
    ∙ ap (λ n. (bytes ++ zeros (n - length bytes)) ++ table_bytes c.plan.inside.got) room
    ∙ ap (λ t. (bytes ++ zeros (offset_of (layout l) (got_start l) - start - length bytes)) ++ table_bytes t) got
    ∙ got_pushed l start bytes some)
    c.push_entries.ensures

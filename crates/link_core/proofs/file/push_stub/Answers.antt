use Rattle.std.proofs.Common.{◌∙◌, ◌+◌, ◌-◌, ◌++◌, [], ◌∷◌, Some, length, ap, sym, arith}
use Rattle.std.specs.Prelude.{negsuc}
use Rattle.elf_records.specs.declared.relocation.RelocationKind.TheVariants.{GotPcRel}
use Rattle.got_pairs.specs.declared.need.Need.TheVariants.{RuntimeWord}
use Rattle.link_faults.specs.ImageKinds.{base_of}
use Rattle.placed_sections.specs.Files.{offset_of}
use Rattle.tls_relocs.specs.Fields.{field_bytes}
use Rattle.tls_relocs.specs.Laid.{zeros}
use Rattle.tls_relocs.specs.Values.{stored_field}
use Rattle.link_needs.specs.Linking.{Linking, layout}
use Rattle.link_needs.specs.Needs.{has_stub, need_address, stub_start}
use Rattle.link_core.proofs.WritingParts.{on_ok_then, stub_bare, stub_pushed}
use Rattle.link_core.proofs.WritingRoom.{stand_near}
use Rattle.link_core.proofs.file.push_stub.Goals as goal

pub place_in_file-place-requires-clause-from_base : goal.place_in_file-place-requires-clause-from_base
place_in_file-place-requires-clause-from_base c =
    let near = stand_near c.plan.inside.inputs c.plan.invariant.given c.plan.invariant.limits in
    omega (arith, near.above, near.after, c.plan.invariant.stub_is, ap (λ (l : Linking). base_of l.kind) c.plan.view_is)

pub place_in_file-place-requires-clause-fits : goal.place_in_file-place-requires-clause-fits
place_in_file-place-requires-clause-fits c =
    let near = stand_near c.plan.inside.inputs c.plan.invariant.given c.plan.invariant.limits in
    omega (arith, near.near, c.plan.invariant.stub_is)

pub pad-requires : goal.pad-requires
pad-requires c =
    let near = stand_near c.plan.inside.inputs c.plan.invariant.given c.plan.invariant.limits in
    omega (arith, near.near, c.plan.invariant.stub_is, c.place_in_file-place.ensures, c.saturating_sub.ensures)

pub overflow_add-plan-inside : goal.overflow_add-plan-inside
overflow_add-plan-inside c =
    let near = stand_near c.plan.inside.inputs c.plan.invariant.given c.plan.invariant.limits in
    omega (arith, near.near, c.plan.invariant.stub_is)

pub returns-in-Ok : goal.returns-in-Ok
returns-in-Ok c =
    let l = c.args.plan.now in
    let start = c.args.start in
    let bytes = c.args.bytes.now.items in
    let begins = c.plan.invariant.stub_is ∙ ap stub_start c.plan.view_is in
    let room = c.saturating_sub.ensures
    ∙ ap (λ n. n - start) (c.place_in_file-place.ensures ∙ ap (offset_of (layout l)) begins) in
    let some = sym (c.plan.invariant.stubbed_is ∙ ap has_stub c.plan.view_is) ∙ c.if-not-plan.false in
    let word = ap (stored_field GotPcRel 0 (negsuc 3) (c.plan.inside.stub_start + 2)) c.need_address-word.ensures in
    let place = ap (λ n. stored_field GotPcRel 0 (negsuc 3) (n + 2) (need_address l (Some RuntimeWord))) begins in
    let value = c.in-Ok.ensures.stored ∙ word ∙ place in
    on_ok_then c.push_field.result (λ e.
    e
    ∙ ap (λ items. items ++ field_bytes c.in-Ok.field) c.in_ok-extend_from_slice.ensures.items
    ∙ ap (λ items. (items ++ (0xff ∷ 0x25 ∷ [])) ++ field_bytes c.in-Ok.field) c.in_ok-pad.ensures
    ∙ ap (λ n. ((bytes ++ zeros (n - length bytes)) ++ (0xff ∷ 0x25 ∷ [])) ++ field_bytes c.in-Ok.field) room
    ∙ stub_pushed l start bytes (Some c.in-Ok.field) some value)
    c.push_field.ensures

pub returns-in-Err : goal.returns-in-Err
returns-in-Err c =
    let l = c.args.plan.now in
    let start = c.args.start in
    let bytes = c.args.bytes.now.items in
    let begins = c.plan.invariant.stub_is ∙ ap stub_start c.plan.view_is in
    let room = c.saturating_sub.ensures
    ∙ ap (λ n. n - start) (c.place_in_file-place.ensures ∙ ap (offset_of (layout l)) begins) in
    let some = sym (c.plan.invariant.stubbed_is ∙ ap has_stub c.plan.view_is) ∙ c.if-not-plan.false in
    let word = ap (stored_field GotPcRel 0 (negsuc 3) (c.plan.inside.stub_start + 2)) c.need_address-word.ensures in
    let place = ap (λ n. stored_field GotPcRel 0 (negsuc 3) (n + 2) (need_address l (Some RuntimeWord))) begins in
    c.in_ok-extend_from_slice.ensures.items
    ∙ ap (λ items. items ++ (0xff ∷ 0x25 ∷ [])) c.in_ok-pad.ensures
    ∙ ap (λ n. (bytes ++ zeros (n - length bytes)) ++ (0xff ∷ 0x25 ∷ [])) room
    ∙ stub_bare l start bytes some (c.in-Err.ensures.stored ∙ word ∙ place)

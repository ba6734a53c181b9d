use Rattle.std.proofs.Common.{◌+◌, ◌*◌, length, refl, ap, ◌∙◌, arith}
use Rattle.std.specs.List.{flat_map}
use Rattle.elf_records.specs.Fields.{splice}
use Rattle.elf_records.specs.Records.{segment_bytes}
use Rattle.image_writer.specs.Outlined.{outlined}
use Rattle.image_writer.proofs.Headings as headings
use Rattle.image_writer.proofs.page.put_headers.Goals as goal

pub put_loads-requires-clause-room : goal.put_loads-requires-clause-room
put_loads-requires-clause-room c =
    let all = headings.program_headers-count (outlined c.args.outline.now) in
    omega (arith, all, c.requires.room)

pub write_segment-requires : goal.write_segment-requires
write_segment-requires c =
    let all = headings.program_headers-count (outlined c.args.outline.now) in
    omega (arith, all, c.requires.room)

pub put_if-requires : goal.put_if-requires
put_if-requires c =
    let o = outlined c.args.outline.now in
    let all = headings.program_headers-count o in
    let tls = headings.tls_headers-count o.kind o.tls in
    omega (arith, all, tls, ap length c.tls_header.ensures, c.requires.room)

pub put_if-requires-2 : goal.put_if-requires-2
put_if-requires-2 c =
    let o = outlined c.args.outline.now in
    let all = headings.program_headers-count o in
    let tls = headings.one_if-is o.tls c.is_some.result c.from.result c.is_some.ensures c.from.ensures in
    let relro = headings.relro_headers-count o o.got in
    omega (arith, all, tls, relro, ap length c.got_header.ensures, c.requires.room)

pub returns : goal.returns
returns c =
    let o = outlined c.args.outline.now in
    let at = c.args.at in
    let next = at + 56 * length o.parts in
    let tls = headings.one_if-is o.tls c.is_some.result c.from.result c.is_some.ensures c.from.ensures in
    let last = next + 56 + 56 * c.from.result in
    headings.put_headers o at next (next + 56) last c.args.out.now c.put_loads.new.out c.write_segment.new.bytes
    c.put_if.new.out c.put_if-2.new.out refl refl (ap (λ n. next + 56 + 56 * n) tls) (omega arith) c.put_loads.ensures
    (c.write_segment.ensures.bytes
    ∙ ap (λ s. splice next (segment_bytes s) c.put_loads.new.out) c.dynamic_header.ensures)
    (c.put_if.ensures
    ∙ ap (λ hs. splice (next + 56) (flat_map segment_bytes hs) c.write_segment.new.bytes) c.tls_header.ensures)
    (c.put_if-2.ensures ∙ ap (λ hs. splice last (flat_map segment_bytes hs) c.put_if.new.out) c.got_header.ensures)

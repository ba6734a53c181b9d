use Rattle.std.proofs.Common.{◌+◌, ◌*◌, refl, sym, ap, ◌∙◌, arith}
use Rattle.std.specs.List.{flat_map}
use Rattle.std.proofs.lemmas.List.{take_all}
use Rattle.elf_records.specs.Fields.{splice}
use Rattle.elf_records.specs.Records.{segment_bytes}
use Rattle.elf_records.specs.RecordLaws.{length-segment_bytes}
use Rattle.image_writer.specs.declared.outline.PartPlace.{PartPlace}
use Rattle.image_writer.specs.Outlined.{outlined}
use Rattle.image_writer.specs.Page.{load_header}
use Rattle.image_writer.proofs.Places.{part_near}
use Rattle.image_writer.proofs.Puts.{splice_none, put_more, flat_map-map}
use Rattle.image_writer.proofs.page.put_loads.Goals as goal

pub loop-number-init : goal.loop-number-init
loop-number-init c = splice_none c.args.at c.args.out.now

pub load_header-header-requires : goal.load_header-header-requires
load_header-header-requires c =
    part_near (outlined c.args.outline.now) c.loop-number.number _ c.requires.loadable c.loop-number-test.true

pub loop-number-preserved : goal.loop-number-preserved
loop-number-preserved c =
    let at = c.args.at in
    let i = c.loop-number.number in
    let kind = c.args.outline.now.kind in
    put_more (λ (p : PartPlace). segment_bytes (load_header kind p)) 56 at
    (at + 56 * i) i c.args.outline.now.parts.now _
    c.args.out.now c.loop-number.out c.write_segment.new.bytes (λ p. length-segment_bytes (load_header kind p))
    c.loop-number-test.true refl (omega arith) c.loop-number.invariant
    (c.write_segment.ensures.bytes
    ∙ ap (λ s. splice (at + 56 * i) (segment_bytes s) c.loop-number.out) c.load_header-header.ensures)

pub returns : goal.returns
returns c =
    let kind = c.args.outline.now.kind in
    let parts = c.args.outline.now.parts.now in
    c.loop-number.invariant
    ∙ ap (λ ps. splice c.args.at (flat_map (λ (p : PartPlace). segment_bytes (load_header kind p)) ps) c.args.out.now)
    (take_all c.loop-number.number parts c.loop-number-test.false)
    ∙ ap (λ ys. splice c.args.at ys c.args.out.now) (sym (flat_map-map segment_bytes (load_header kind) parts))

use Rattle.std.proofs.Common.{◌∙◌, ap, arith}
use Rattle.tls_layout.specs.declared.extent.Extent.{Extent}
use Rattle.memory_image.specs.declared.fields.Table.TheVariants.{Bytes}
use Rattle.memory_image.specs.Filling.{cell_in}
use Rattle.memory_image.proofs.Laid.{length_class}
use Rattle.memory_image.proofs.Moving.{class_is}
use Rattle.memory_image.proofs.memory_image.MemoryImage.of.Goals as goal
use Rattle.std.specs.Prelude.{length}

pub invariant_of-result : goal.invariant_of-result
invariant_of-result c =
    let l = c.args.inputs.now in
    let start = ap (λ (x : Extent). x.start) c.class_extent-start.ensures.extent in
    let end = ap (λ (x : Extent). x.end) c.class_extent-start.ensures.extent in
    let few = ap length c.in_ok-bytes.ensures ∙ length_class (cell_in Bytes l) l c.args.class 0 in
    let low = c.class_extent-start.ensures.low in
    let rises = c.class_extent-start.ensures.rises in
    record { low = omega arith; few = omega (arith, few) }

pub returns : goal.returns
returns c =
    class_is c.args.inputs.now c.args.class c.requires c.class_extent-start.ensures.objects _
    (ap (λ (x : Extent). x.start) c.class_extent-start.ensures.extent) c.in_ok-bytes.ensures c.in_ok-marks.ensures

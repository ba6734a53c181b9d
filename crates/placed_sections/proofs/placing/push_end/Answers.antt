use Rattle.std.proofs.Common.{ap, arith}
use Rattle.link_faults.specs.ImageKinds.{base_of}
use Rattle.tls_layout.proofs.Bounds.{extent_bounds}
use Rattle.placed_sections.proofs.placing.push_end.Goals as goal

pub offset_of-requires : goal.offset_of-requires
offset_of-requires c =
    let kind = ap base_of c.kind.ensures in
    let end = ap (λ x. x.end) c.extent-extent.ensures.extent in
    let bounds = extent_bounds c.args.class c.args.placement.now c.extent-extent.ensures.lawful in
    record { from_base = omega arith; fits = omega arith }

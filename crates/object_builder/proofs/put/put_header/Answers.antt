use Rattle.std.proofs.Common.{◌≤◌, length, arith, refl, ◌∙◌}
use Rattle.object_builder.proofs.Records.{ident_read, put_behind, whole_header}
use Rattle.object_builder.proofs.put.put_header.Goals as goal

pub returns : goal.returns
returns c =
    let long : 64 ≤ length c.write_header.new.bytes = omega (arith, c.write_header.auto.bytes) in
    put_behind c.extend_from_slice.result _ _ _ _ c.extend_from_slice.ensures.items
    (c.write_header.ensures.bytes
    ∙ whole_header _ _ (ident_read _ c.write_header.new.bytes long c.write_header.ensures.again) refl)

use Rattle.std.proofs.Common.{arith}
use Rattle.link_needs.specs.Linking.{layout}
use Rattle.link_needs.proofs.InputsLemmas.{fits_at_address}
use Rattle.link_needs.proofs.inputs.Inputs.address.Goals as goal

pub overflow_add-result : goal.overflow_add-result
overflow_add-result c =
    let s = c.in-InSection.section in
    fits_at_address (layout c.args.self.now) c.args.symbol.object s c.section_address.result c.part-place.result.1
    (c.part-place.ensures.small s c.in-InSection.is)
    (omega (arith, c.part-place.type_inv)) c.section_address.ensures.address
    c.section_address.ensures.small

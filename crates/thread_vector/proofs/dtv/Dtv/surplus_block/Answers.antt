-- Where the block lies in the surplus.
use Rattle.std.proofs.Common.{◌≡◌, ◌∙◌, Some, refl, sym, ap, arith}
use Rattle.std.proofs.lemmas.List.{get_or_default}
use Rattle.module_table.specs.Past.{module_of}
use Rattle.thread_vector.specs.Vectors.{Vector, block_in, no_piece, slot_of}
use Rattle.thread_vector.proofs.Blocks.{surplus_place}
use Rattle.thread_vector.proofs.dtv.Dtv.surplus_block.Goals as goal

pub overflow_sub-from : goal.overflow_sub-from
overflow_sub-from c =
    let at : (module_of c.self.inside.table c.args.image).offset ≡ Some c.args.offset =
    rw (ap (λ v. v.past) c.self.view_is) c.requires in
    rw c.last_offset.ensures.value
    (surplus_place c.self.inside.modules.now c.self.inside.table c.args.image c.args.offset c.self.invariant.left at).1

pub part-requires : goal.part-requires
part-requires c =
    let at : (module_of c.self.inside.table c.args.image).offset ≡ Some c.args.offset =
    rw (ap (λ v. v.past) c.self.view_is) c.requires in
    let place = surplus_place c.self.inside.modules.now c.self.inside.table c.args.image c.args.offset c.self.invariant.left at in
    let slot : c.index-slot.result.now ≡ slot_of c.self.inside.slots.items 0 = c.index-slot.ensures
    ∙ get_or_default c.self.inside.slots.items 0 c.index-slot.result.now no_piece
    (omega (arith, c.self.invariant.long)) in
    rw (slot, c.self.invariant.surplus, c.last_offset.ensures.value, c.module-size.ensures) place.2

pub returns : goal.returns
returns c =
    let at : (module_of c.self.inside.table c.args.image).offset ≡ Some c.args.offset =
    rw (ap (λ v. v.past) c.self.view_is) c.requires in
    let place = surplus_place c.self.inside.modules.now c.self.inside.table c.args.image c.args.offset c.self.invariant.left at in
    let slot : c.index-slot.result.now ≡ slot_of c.self.inside.slots.items 0 = c.index-slot.ensures
    ∙ get_or_default c.self.inside.slots.items 0 c.index-slot.result.now no_piece
    (omega (arith, c.self.invariant.long)) in
    let inner : block_in c.self.inside.slots.items c.self.inside.table c.args.image ≡ Some c.part.result.now =
    rw (at, place.0, c.part.ensures, slot, c.last_offset.ensures.value, c.module-size.ensures) refl in
    ap (λ (v : Vector). block_in v.slots v.past c.args.image) (sym c.self.view_is) ∙ inner

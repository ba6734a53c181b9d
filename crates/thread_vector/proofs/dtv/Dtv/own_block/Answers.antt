-- The slot of the image's id.
use Rattle.std.proofs.Common.{◌≡◌, ◌∙◌, ◌≤◌, Some, None, true, sym, ap, arith}
use Rattle.module_table.specs.Modules.{is_loaded}
use Rattle.module_table.specs.Past.{module_of}
use Rattle.std.proofs.lemmas.List.{get_or_default}
use Rattle.thread_vector.specs.Vectors.{Piece, Vector, block_in, is_number, no_piece, slot_of}
use Rattle.thread_vector.specs.Views.{vector_of}
use Rattle.thread_vector.proofs.Stepping.{id_high}
use Rattle.thread_vector.proofs.dtv.Dtv.own_block.Goals as goal

pub index-slot-requires : goal.index-slot-requires
index-slot-requires c =
    let here : is_loaded (module_of c.self.inside.table c.args.image) ≡ true =
    rw (ap (λ v. v.past) c.self.view_is) c.requires.loaded in
    let high : (module_of c.self.inside.table c.args.image).id ≤ 64 =
    id_high (vector_of c.self.inside) c.args.image c.self.invariant here in
    rw c.module-module.ensures (omega (arith, c.self.inside.slots.ok.0, c.self.invariant.long))

pub returns-then-is_of : goal.returns-then-is_of
returns-then-is_of c =
    let here : is_loaded (module_of c.self.inside.table c.args.image) ≡ true =
    rw (ap (λ v. v.past) c.self.view_is) c.requires.loaded in
    let own : (module_of c.self.inside.table c.args.image).offset ≡ None =
    rw (ap (λ v. v.past) c.self.view_is) c.requires.own in
    let high : (module_of c.self.inside.table c.args.image).id ≤ 64 =
    id_high (vector_of c.self.inside) c.args.image c.self.invariant here in
    let slot : c.index-slot.result.now
    ≡ slot_of c.self.inside.slots.items (module_of c.self.inside.table c.args.image).id =
    c.index-slot.ensures ∙ get_or_default c.self.inside.slots.items c.module-module.result.id c.index-slot.result.now no_piece (rw c.module-module.ensures (omega (arith, c.self.invariant.long)))
    ∙ ap (λ m. slot_of c.self.inside.slots.items m.id) c.module-module.ensures in
    let is : is_number (module_of c.self.inside.table c.args.image).instance
    (slot_of c.self.inside.slots.items (module_of c.self.inside.table c.args.image).id).instance ≡ true =
    rw (← slot, ← c.module-module.ensures) (sym c.is_of.ensures ∙ c.if-is_of.true) in
    let inner : block_in c.self.inside.slots.items c.self.inside.table c.args.image ≡ Some c.bytes.result.now =
    rw (own, is) (ap (λ (s : Piece). Some s.bytes) (sym slot) ∙ ap Some (sym c.bytes.ensures)) in
    ap (λ (v : Vector). block_in v.slots v.past c.args.image) (sym c.self.view_is) ∙ inner

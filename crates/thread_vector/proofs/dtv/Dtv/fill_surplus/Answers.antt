-- Where the block lies in the surplus.
use Rattle.std.proofs.Common.{◌≡◌, ◌∙◌, ◌-◌, ap, refl, sym, arith, true, Some, length}
use Rattle.module_table.specs.Modules.{is_loaded}
use Rattle.module_table.specs.Past.{module_of}
use Rattle.std.proofs.lemmas.List.{get_or_default}
use Rattle.loaded_modules.specs.Loader.{fresh_block}
use Rattle.thread_vector.specs.Views.{vector_of}
use Rattle.thread_vector.specs.Vectors.{Vector, loaded_as, no_piece, over, slot_of}
use Rattle.thread_vector.proofs.Stepping.{vector_filled}
use Rattle.thread_vector.proofs.Facts.{size_is}
use Rattle.thread_vector.proofs.Blocks.{surplus_place}
use Rattle.thread_vector.proofs.dtv.Dtv.fill_surplus.Goals as goal

pub overflow_sub-from : goal.overflow_sub-from
overflow_sub-from c =
    let at : (module_of c.self.inside.table c.args.image).offset ≡ Some c.in-Some.offset =
    ap (λ m. m.offset) (sym c.module-module.ensures) ∙ c.in-Some.is in
    rw c.last_offset.ensures.value
    (surplus_place c.self.inside.modules.now c.self.inside.table c.args.image c.in-Some.offset c.self.invariant.left at).1

pub fill-requires-clause-size : goal.fill-requires-clause-size
fill-requires-clause-size c =
    let here : is_loaded (module_of c.self.inside.table c.args.image) ≡ true =
    rw (ap (λ v. v.past) c.self.view_is) c.requires in
    rw (c.module-module.ensures, c.loaded_as-instance.ensures)
    (size_is c.self.inside.modules.now c.self.inside.table c.args.image c.self.invariant.left here)

pub fill-requires-clause-room : goal.fill-requires-clause-room
fill-requires-clause-room c =
    let at : (module_of c.self.inside.table c.args.image).offset ≡ Some c.in-Some.offset =
    ap (λ m. m.offset) (sym c.module-module.ensures) ∙ c.in-Some.is in
    let place = surplus_place c.self.inside.modules.now c.self.inside.table c.args.image c.in-Some.offset c.self.invariant.left at in
    let slot : c.index_mut-slot.result.now ≡ slot_of c.self.inside.slots.items 0 = c.index_mut-slot.ensures.value
    ∙ get_or_default c.self.inside.slots.items 0 c.index_mut-slot.result.now no_piece
    (omega (arith, c.self.invariant.long)) in
    rw (slot, c.self.invariant.surplus, c.last_offset.ensures.value, c.module-module.ensures) place.2

-- what the first slot becomes
piece : (c : goal.After-self-1) → c.fill.new.self ≡ record {
  instance = (slot_of c.self.inside.slots.items 0).instance;
  bytes = over (c.self.inside.table.limit - c.in-Some.offset) (module_of c.self.inside.table c.args.image).info.size
      (slot_of c.self.inside.slots.items 0).bytes
      (fresh_block c.self.inside.modules.now (loaded_as c.self.inside.modules.now c.self.inside.table c.args.image));
}
piece c =
    let at : (module_of c.self.inside.table c.args.image).offset ≡ Some c.in-Some.offset =
    ap (λ m. m.offset) (sym c.module-module.ensures) ∙ c.in-Some.is in
    let place = surplus_place c.self.inside.modules.now c.self.inside.table c.args.image c.in-Some.offset c.self.invariant.left at in
    let slot : c.index_mut-slot.result.now ≡ slot_of c.self.inside.slots.items 0 = c.index_mut-slot.ensures.value
    ∙ get_or_default c.self.inside.slots.items 0 c.index_mut-slot.result.now no_piece
    (omega (arith, c.self.invariant.long)) in
    let named : c.loaded_as-instance.result ≡ loaded_as c.self.inside.modules.now c.self.inside.table c.args.image =
    c.loaded_as-instance.ensures
    ∙ ap (λ (v : Vector). loaded_as v.images v.past c.args.image) (sym c.self.view_is) in
    c.fill.ensures.filled ∙ rw (slot, c.last_offset.ensures.value, c.module-module.ensures, named, place.0) refl

long : (c : goal.After-self-1)
    → length (fresh_block c.self.inside.modules.now
    (loaded_as c.self.inside.modules.now c.self.inside.table c.args.image))
    ≡ (module_of c.self.inside.table c.args.image).info.size
long c =
    let named : c.loaded_as-instance.result ≡ loaded_as c.self.inside.modules.now c.self.inside.table c.args.image =
    c.loaded_as-instance.ensures
    ∙ ap (λ (v : Vector). loaded_as v.images v.past c.args.image) (sym c.self.view_is) in
    rw (← named, ← c.module-module.ensures) c.fill.ensures.long

pub invariant_of-self : goal.invariant_of-self
invariant_of-self c =
    let at : (module_of c.self.inside.table c.args.image).offset ≡ Some c.in-Some.offset =
    ap (λ m. m.offset) (sym c.module-module.ensures) ∙ c.in-Some.is in
    rw (piece c) (vector_filled (vector_of c.self.inside) c.args.image c.in-Some.offset c.self.invariant at (long c))

pub returns-in-Some : goal.returns-in-Some
returns-in-Some c =
    let at : (module_of c.self.inside.table c.args.image).offset ≡ Some c.in-Some.offset =
    ap (λ m. m.offset) (sym c.module-module.ensures) ∙ c.in-Some.is in
    rw (← c.self.view_is, at) (rw (piece c) refl, long c)

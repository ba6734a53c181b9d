-- A block of its own for a loaded image.
use Rattle.std.proofs.Common.{◌≡◌, ◌∙◌, ◌≤◌, true, sym, ap, arith, length}
use Rattle.module_table.specs.Modules.{is_loaded}
use Rattle.module_table.specs.Past.{module_of}
use Rattle.thread_vector.specs.Views.{vector_of}
use Rattle.thread_vector.specs.Vectors.{Vector, loaded_as}
use Rattle.thread_vector.proofs.Facts.{size_is}
use Rattle.thread_vector.proofs.Stepping.{id_high, vector_made}
use Rattle.loaded_modules.specs.Loader.{fresh_block}
use Rattle.thread_vector.proofs.dtv.Dtv.make.Goals as goal

pub fresh-requires : goal.fresh-requires
fresh-requires c =
    let here : is_loaded (module_of c.self.inside.table c.args.image) ≡ true =
    rw (ap (λ v. v.past) c.self.view_is) c.requires.loaded in
    rw (c.module-module.ensures, c.loaded_as-instance.ensures)
    (size_is c.self.inside.modules.now c.self.inside.table c.args.image c.self.invariant.left here)

pub index_mut-requires : goal.index_mut-requires
index_mut-requires c =
    let here : is_loaded (module_of c.self.inside.table c.args.image) ≡ true =
    rw (ap (λ v. v.past) c.self.view_is) c.requires.loaded in
    let high : (module_of c.self.inside.table c.args.image).id ≤ 64 =
    id_high (vector_of c.self.inside) c.args.image c.self.invariant here in
    rw c.module-module.ensures (omega (arith, c.self.inside.slots.ok.0, c.self.invariant.long))

pub invariant_of-self : goal.invariant_of-self
invariant_of-self c =
    let here : is_loaded (module_of c.self.inside.table c.args.image) ≡ true =
    rw (ap (λ v. v.past) c.self.view_is) c.requires.loaded in
    let named : c.loaded_as-instance.result ≡ loaded_as c.self.inside.modules.now c.self.inside.table c.args.image =
    c.loaded_as-instance.ensures
    ∙ ap (λ (v : Vector). loaded_as v.images v.past c.args.image) (sym c.self.view_is) in
    rw (c.module-module.ensures, c.in_ok-slot.ensures.fresh, named)
    (vector_made (vector_of c.self.inside) c.args.image
    (fresh_block c.self.inside.modules.now
    (loaded_as c.self.inside.modules.now c.self.inside.table c.args.image)) c.self.invariant here
    (rw (← named, ← c.module-module.ensures)
    (sym (ap (λ s. length s.bytes) c.in_ok-slot.ensures.fresh) ∙ c.in_ok-slot.ensures.long)))

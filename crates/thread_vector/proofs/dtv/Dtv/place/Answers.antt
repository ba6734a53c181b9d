-- Where the block lies.
use Rattle.std.proofs.Common.{◌≡◌, ◌∙◌, ℕ, Some, None, sym, subst, ap}
use Rattle.module_table.specs.Past.{module_of}
use Rattle.module_table.specs.PastLaws.{image_of}
use Rattle.thread_vector.specs.declared.dtv.Place.{Place}
use Rattle.thread_vector.specs.Places.{place_at, place_of}
use Rattle.thread_vector.specs.Views.{vector_of}
use Rattle.thread_vector.specs.Vectors.{Vector}
use Rattle.thread_vector.proofs.Blocks.{surplus_place}
use Rattle.thread_vector.proofs.Lending.{Placed, place_none, place_some, placed}
use Rattle.thread_vector.proofs.dtv.Dtv.place.Goals as goal

-- a place that is the block's is one
is_placed : (v : Vector) (i : ℕ) (p : Place) → Placed v i (place_of v i) → p ≡ place_of v i → Placed v i p
is_placed v i p is e = subst (Placed v i) (sym e) is

pub overflow_sub-result : goal.overflow_sub-result
overflow_sub-result c =
    let at : (module_of c.self.inside.table c.in-Some.image).offset ≡ Some c.in-Some-offset.offset =
    ap (λ m. m.offset) (sym c.module-module.ensures) ∙ c.in-Some-offset.is in
    rw c.last_offset.ensures.value
    (surplus_place c.self.inside.modules.now c.self.inside.table c.in-Some.image c.in-Some-offset.offset c.self.invariant.left at).1

pub returns-in_default-clause-place : goal.returns-in_default-clause-place
returns-in_default-clause-place c =
    place_none c.args.self.now c.args.instance (sym c.image_of.ensures ∙ c.in_default.is)

pub returns-in-Some-offset-clause-place : goal.returns-in-Some-offset-clause-place
returns-in-Some-offset-clause-place c =
    let at : (module_of c.self.inside.table c.in-Some.image).offset ≡ Some c.in-Some-offset.offset =
    ap (λ m. m.offset) (sym c.module-module.ensures) ∙ c.in-Some-offset.is in
    let place = surplus_place c.self.inside.modules.now c.self.inside.table c.in-Some.image c.in-Some-offset.offset c.self.invariant.left at in
    let image : image_of c.self.inside.table c.args.instance ≡ Some c.in-Some.image =
    ap (λ (v : Vector). image_of v.past c.args.instance) c.self.view_is ∙ sym c.image_of.ensures ∙ c.in-Some.is in
    rw (c.last_offset.ensures.value, c.module-module.ensures, ← place.0)
    (ap (place_at c.self.inside.table.limit (module_of c.self.inside.table c.in-Some.image)) (sym at)
    ∙ sym (place_some (vector_of c.self.inside) c.args.instance c.in-Some.image image)
    ∙ ap (λ (v : Vector). place_of v c.args.instance) c.self.view_is)

pub returns-in-None-clause-place : goal.returns-in-None-clause-place
returns-in-None-clause-place c =
    let at : (module_of c.self.inside.table c.in-Some.image).offset ≡ None =
    ap (λ m. m.offset) (sym c.module-module.ensures) ∙ c.in-None.is in
    let image : image_of c.self.inside.table c.args.instance ≡ Some c.in-Some.image =
    ap (λ (v : Vector). image_of v.past c.args.instance) c.self.view_is ∙ sym c.image_of.ensures ∙ c.in-Some.is in
    rw c.module-module.ensures
    (ap (place_at c.self.inside.table.limit (module_of c.self.inside.table c.in-Some.image)) (sym at)
    ∙ sym (place_some (vector_of c.self.inside) c.args.instance c.in-Some.image image)
    ∙ ap (λ (v : Vector). place_of v c.args.instance) c.self.view_is)

pub returns-in_default-clause-low : goal.returns-in_default-clause-low
returns-in_default-clause-low c =
    (is_placed c.args.self.now c.args.instance _
    (placed c.args.self.now c.args.instance c.blocks_fit.ensures c.requires)
    (returns-in_default-clause-place c)).low

pub returns-in_default-clause-block : goal.returns-in_default-clause-block
returns-in_default-clause-block c =
    (is_placed c.args.self.now c.args.instance _
    (placed c.args.self.now c.args.instance c.blocks_fit.ensures c.requires)
    (returns-in_default-clause-place c)).block

pub returns-in-Some-offset-clause-low : goal.returns-in-Some-offset-clause-low
returns-in-Some-offset-clause-low c =
    (is_placed c.args.self.now c.args.instance _
    (rw (← c.self.view_is) (placed (vector_of c.self.inside) c.args.instance c.self.invariant
    (rw c.self.view_is c.requires))) (returns-in-Some-offset-clause-place c)).low

pub returns-in-Some-offset-clause-high : goal.returns-in-Some-offset-clause-high
returns-in-Some-offset-clause-high c =
    (is_placed c.args.self.now c.args.instance _
    (rw (← c.self.view_is) (placed (vector_of c.self.inside) c.args.instance c.self.invariant
    (rw c.self.view_is c.requires))) (returns-in-Some-offset-clause-place c)).high

pub returns-in-Some-offset-clause-block : goal.returns-in-Some-offset-clause-block
returns-in-Some-offset-clause-block c =
    (is_placed c.args.self.now c.args.instance _
    (rw (← c.self.view_is) (placed (vector_of c.self.inside) c.args.instance c.self.invariant
    (rw c.self.view_is c.requires))) (returns-in-Some-offset-clause-place c)).block

pub returns-in-None-clause-low : goal.returns-in-None-clause-low
returns-in-None-clause-low c =
    (is_placed c.args.self.now c.args.instance _
    (rw (← c.self.view_is) (placed (vector_of c.self.inside) c.args.instance c.self.invariant
    (rw c.self.view_is c.requires))) (returns-in-None-clause-place c)).low

pub returns-in-None-clause-high : goal.returns-in-None-clause-high
returns-in-None-clause-high c =
    (is_placed c.args.self.now c.args.instance _
    (rw (← c.self.view_is) (placed (vector_of c.self.inside) c.args.instance c.self.invariant
    (rw c.self.view_is c.requires))) (returns-in-None-clause-place c)).high

pub returns-in-None-clause-block : goal.returns-in-None-clause-block
returns-in-None-clause-block c =
    (is_placed c.args.self.now c.args.instance _
    (rw (← c.self.view_is) (placed (vector_of c.self.inside) c.args.instance c.self.invariant
    (rw c.self.view_is c.requires))) (returns-in-None-clause-place c)).block

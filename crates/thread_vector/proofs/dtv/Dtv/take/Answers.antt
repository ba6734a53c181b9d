-- The blocks after an event.
use Rattle.std.proofs.Common.{◌≡◌, ◌∙◌, refl, sym, subst, false}
use Rattle.module_table.specs.Modules.{is_loaded}
use Rattle.module_table.specs.Past.{after_one, module_of}
use Rattle.thread_vector.specs.Statements.{FilledAt}
use Rattle.thread_vector.proofs.Stepping.{taken_kept, taken_new, then_loaded}
use Rattle.thread_vector.proofs.dtv.Dtv.take.Goals as goal

pub fill_surplus-requires : goal.fill_surplus-requires
fill_surplus-requires c =
    rw c.see.ensures.seen (then_loaded c.args.self.now c.args.event c.see.ensures.is c.requires.accepted
    (sym c.is_loaded-had.ensures ∙ c.if-not-had.true))

pub returns-then-not-had-clause-blocks : goal.returns-then-not-had-clause-blocks
returns-then-not-had-clause-blocks c =
    let v = c.args.self.now in
    let unloaded : is_loaded (module_of c.args.self.now.past c.args.event.image) ≡ false = sym c.is_loaded-had.ensures
    ∙ c.if-not-had.true in
    taken_new v c.fill_surplus.new.self c.args.event c.see.ensures.is c.requires.accepted unloaded
    (then_loaded v c.args.event c.see.ensures.is c.requires.accepted unloaded)
    (module_of (after_one v.past c.args.event) c.args.event.image).offset refl
    (subst (λ u. FilledAt u c.args.event.image c.fill_surplus.new.self
    (module_of u.past c.args.event.image).offset) c.see.ensures.seen c.fill_surplus.ensures)

pub returns-else-not-had-clause-blocks : goal.returns-else-not-had-clause-blocks
returns-else-not-had-clause-blocks c =
    rw c.see.ensures.seen (taken_kept c.args.self.now c.args.event c.see.ensures.is c.requires.accepted
    (sym c.is_loaded-had.ensures ∙ c.if-not-had.false))

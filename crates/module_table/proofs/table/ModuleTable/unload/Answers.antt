-- The last close takes the id from the ids in use.
use Rattle.std.proofs.Common.{◌≡◌, sym, ap, ◌∙◌, subst, refl}
use Rattle.module_table.specs.declared.modules.Module.{Module}
use Rattle.module_table.specs.Past.{Past, module_of, released}
use Rattle.module_table.specs.Tables.{past_of}
use Rattle.module_table.specs.Marks.{RemovesId}
use Rattle.module_table.proofs.Steps.{released_gone}
use Rattle.module_table.proofs.table.ModuleTable.unload.Goals as goal

pub invariant_of-self : goal.invariant_of-self
unfolding released
invariant_of-self c =
    let m : c.module-module.result ≡ module_of (past_of c.self.inside) c.args.image = c.module-module.ensures
    ∙ ap (λ (p : Past). module_of p c.args.image) (sym c.self.view_is) in
    let last : (module_of (past_of c.self.inside) c.args.image).uses ≡ 1 =
    subst (λ (p : Past). (module_of p c.args.image).uses ≡ 1) (sym c.self.view_is) c.requires.last in
    let removes : RemovesId c.self.inside.ids.word
    (module_of (past_of c.self.inside) c.args.image).id c.remove.new.self.word =
    subst (λ (x : Module). RemovesId c.self.inside.ids.word x.id c.remove.new.self.word) m c.remove.ensures in
    rw m (released_gone (past_of c.self.inside) _ _ c.self.inside.ids.word c.remove.new.self.word c.args.image c.self.invariant last removes)

pub returns : goal.returns
unfolding released
returns c =
    let m : c.module-module.result ≡ module_of (past_of c.self.inside) c.args.image = c.module-module.ensures
    ∙ ap (λ (p : Past). module_of p c.args.image) (sym c.self.view_is) in
    rw (← c.self.view_is, m) refl

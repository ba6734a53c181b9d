-- An open of a loaded image changes how often it is held open, and nothing else.
use Rattle.std.proofs.Common.{◌≡◌, true, sym, ap, ◌∙◌, subst, refl}
use Rattle.module_table.specs.Modules.{is_loaded}
use Rattle.module_table.specs.Past.{Past, module_of, retained}
use Rattle.module_table.specs.Tables.{past_of}
use Rattle.module_table.proofs.Steps.{retained_kept}
use Rattle.module_table.proofs.table.ModuleTable.retain.Goals as goal

pub invariant_of-self : goal.invariant_of-self
unfolding retained
invariant_of-self c =
    let m : c.module-module.result ≡ module_of (past_of c.self.inside) c.args.image = c.module-module.ensures
    ∙ ap (λ (p : Past). module_of p c.args.image) (sym c.self.view_is) in
    let loaded : is_loaded (module_of (past_of c.self.inside) c.args.image) ≡ true =
    subst (λ (p : Past). is_loaded (module_of p c.args.image) ≡ true) (sym c.self.view_is) c.requires.loaded in
    rw m (retained_kept (past_of c.self.inside) _ _ _ c.args.image c.self.invariant loaded)

pub returns : goal.returns
unfolding retained
returns c =
    let m : c.module-module.result ≡ module_of (past_of c.self.inside) c.args.image = c.module-module.ensures
    ∙ ap (λ (p : Past). module_of p c.args.image) (sym c.self.view_is) in
    rw (← c.self.view_is, m) refl

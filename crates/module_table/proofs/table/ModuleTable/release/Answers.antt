-- A close that is not the last one changes how often the image is held open, and nothing else.
use Rattle.std.proofs.Common.{◌≡◌, ◌<◌, sym, ap, ◌∙◌, subst, refl}
use Rattle.module_table.specs.Past.{Past, module_of, released}
use Rattle.module_table.specs.Tables.{past_of}
use Rattle.module_table.proofs.Steps.{released_kept}
use Rattle.module_table.proofs.table.ModuleTable.release.Goals as goal

pub invariant_of-self : goal.invariant_of-self
unfolding released
invariant_of-self c =
    let m : c.module-module.result ≡ module_of (past_of c.self.inside) c.args.image = c.module-module.ensures
    ∙ ap (λ (p : Past). module_of p c.args.image) (sym c.self.view_is) in
    let more : 1 < (module_of (past_of c.self.inside) c.args.image).uses =
    subst (λ (p : Past). 1 < (module_of p c.args.image).uses) (sym c.self.view_is) c.requires.more in
    rw m (released_kept (past_of c.self.inside) _ _ _ c.args.image c.self.invariant more)

pub returns : goal.returns
unfolding released
returns c =
    let m : c.module-module.result ≡ module_of (past_of c.self.inside) c.args.image = c.module-module.ensures
    ∙ ap (λ (p : Past). module_of p c.args.image) (sym c.self.view_is) in
    rw (← c.self.view_is, m) refl

-- A load writes the new instance into each table.
use Rattle.std.proofs.Common.{◌≡◌, sym, ap, ◌∙◌, subst, refl}
use Rattle.module_table.specs.declared.modules.Module.{Module}
use Rattle.module_table.specs.Past.{Past, module_of, loaded, new_instance, least_free}
use Rattle.module_table.specs.Tables.{past_of, CanLoad}
use Rattle.module_table.specs.Marks.{AddsId}
use Rattle.module_table.proofs.Steps.{loaded_kept}
use Rattle.module_table.proofs.table.ModuleTable.load.Goals as goal

pub invariant_of-self : goal.invariant_of-self
unfolding loaded
invariant_of-self c =
    let m : c.new_instance-module.result
    ≡ new_instance (past_of c.self.inside) (module_of (past_of c.self.inside) c.args.image) =
    c.new_instance-module.ensures.value
    ∙ ap (λ (p : Past). new_instance p (module_of p c.args.image)) (sym c.self.view_is) in
    let can : CanLoad (past_of c.self.inside) c.args.image =
    subst (λ (p : Past). CanLoad p c.args.image) (sym c.self.view_is) c.requires.can in
    let adds : AddsId c.self.inside.ids.word (least_free c.self.inside.modules.items) c.insert.new.self.word =
    subst (λ (x : Module). AddsId c.self.inside.ids.word x.id c.insert.new.self.word) m c.insert.ensures in
    rw (c.unwrap_or-self-inside.ensures, m)
    (loaded_kept (past_of c.self.inside) c.self.inside.image_by_instance.items c.self.inside.image_by_id.items c.self.inside.ids.word c.insert.new.self.word c.args.image c.self.invariant can
    adds)

pub returns : goal.returns
unfolding loaded
returns c =
    let m : c.new_instance-module.result
    ≡ new_instance (past_of c.self.inside) (module_of (past_of c.self.inside) c.args.image) =
    c.new_instance-module.ensures.value
    ∙ ap (λ (p : Past). new_instance p (module_of p c.args.image)) (sym c.self.view_is) in
    rw (← c.self.view_is, c.unwrap_or-self-inside.ensures, m) refl

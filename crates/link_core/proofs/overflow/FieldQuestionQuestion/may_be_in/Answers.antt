use Rattle.std.proofs.Common.{◌∙◌, sym, ap}
use Rattle.elf_object.specs.declared.noted.Traits.{Traits}
use Rattle.link_core.proofs.NarrowFields.{narrow_object_fits}
use Rattle.link_core.proofs.overflow.FieldQuestionQuestion.may_be_in.Goals as goal

pub returns : goal.returns
returns c = λ narrow.
    let h = c.requires in
    narrow_object_fits c.args.self.now.plan.now c.args._number c.args.object.now h.given h.sound h.there h.here
    (sym (ap (λ (t : Traits). t.is_wide) c.traits.ensures) ∙ narrow)

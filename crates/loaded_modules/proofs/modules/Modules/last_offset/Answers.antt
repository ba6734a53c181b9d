use Rattle.std.proofs.Common.{◌∙◌, sym, ap, subst, length, ◌<◌, ◌^◌}
use Rattle.module_table.specs.Modules.{AreInfos}
use Rattle.loaded_modules.proofs.Kept.{last_is, last_low}
use Rattle.loaded_modules.proofs.modules.Modules.last_offset.Goals as goal

pub returns-clause-value : goal.returns-clause-value
returns-clause-value c = c.static_offset.ensures
    ∙ last_is c.args.self.now (length c.infos.result.now) (ap length c.infos.ensures.value)

pub returns-clause-low : goal.returns-clause-low
returns-clause-low c =
    subst (λ n. n < 2 ^ 27)
    (sym (c.static_offset.ensures
    ∙ last_is c.args.self.now (length c.infos.result.now) (ap length c.infos.ensures.value)))
    (last_low c.args.self.now (subst AreInfos c.infos.ensures.value c.infos.ensures.kept))

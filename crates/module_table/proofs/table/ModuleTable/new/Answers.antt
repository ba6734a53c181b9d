-- The tables of the start.
use Rattle.std.proofs.Common.{◌∷◌, ◌∙◌, List, refl, sym, subst}
use Rattle.std.specs.Prelude.{All}
use Rattle.module_table.specs.declared.modules.Module.{Module}
use Rattle.module_table.specs.Modules.{no_module}
use Rattle.module_table.specs.Past.{first_modules, start}
use Rattle.module_table.specs.Start.{HasSmallId, MarksIds}
use Rattle.module_table.proofs.Starting.{small_ids, tables_start}
use Rattle.module_table.proofs.table.ModuleTable.new.Goals as goal

pub ids_of-ids-requires : goal.ids_of-ids-requires
ids_of-ids-requires c =
    subst (λ (ms : List Module). All HasSmallId ms) (sym (c.deref.ensures.value ∙ c.in_ok-modules.ensures))
    (small_ids c.args.infos.now c.requires.infos)

pub invariant_of-result : goal.invariant_of-result
unfolding start
invariant_of-result c =
    let marks : MarksIds c.ids_of-ids.result.word (no_module ∷ first_modules c.args.infos.now 1) =
    subst (λ (ms : List Module). MarksIds c.ids_of-ids.result.word ms)
    (c.deref.ensures.value ∙ c.in_ok-modules.ensures) c.ids_of-ids.ensures in
    rw (c.startup_count.ensures, c.in_ok-modules.ensures)
    (tables_start c.args.infos.now c.args.last_offset c.in_ok-image_by_instance.image_by_instance.items c.in_ok-image_by_id.image_by_id.items c.ids_of-ids.result.word c.requires.infos
    c.requires.low c.in_ok-image_by_instance.ensures.len c.in_ok-image_by_instance.ensures.each c.in_ok-image_by_id.ensures.len c.in_ok-image_by_id.ensures.each marks)

pub returns : goal.returns
unfolding start
returns c = rw (c.startup_count.ensures, c.in_ok-modules.ensures) refl

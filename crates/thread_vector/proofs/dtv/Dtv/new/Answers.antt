-- A vector before any event.
use Rattle.std.proofs.Common.{◌<◌, ◌^◌, subst}
use Rattle.module_table.specs.Modules.{AreInfos}
use Rattle.loaded_modules.specs.Images.{infos, last_offset}
use Rattle.thread_vector.proofs.First.{held_first, vector_first}
use Rattle.thread_vector.proofs.dtv.Dtv.new.Goals as goal

pub invariant_of-result : goal.invariant_of-result
invariant_of-result c =
    let are : AreInfos (infos c.args.modules.now) = subst AreInfos c.infos.ensures.value c.infos.ensures.kept in
    let small : last_offset c.args.modules.now < 2 ^ 27 =
    rw (← c.last_offset.ensures.value) c.last_offset.ensures.low in
    rw (c.in_ok-table.ensures, c.infos.ensures.value, c.last_offset.ensures.value)
    (vector_first c.args.thread c.args.modules.now c.in_ok-slots.slots.items c.requires.low c.requires.high are small c.in_ok-slots.ensures)

pub returns-clause-blocks : goal.returns-clause-blocks
returns-clause-blocks c =
    let are : AreInfos (infos c.args.modules.now) = subst AreInfos c.infos.ensures.value c.infos.ensures.kept in
    rw (c.in_ok-table.ensures, c.infos.ensures.value, c.last_offset.ensures.value)
    (held_first c.args.thread c.args.modules.now c.in_ok-slots.slots.items are c.in_ok-slots.ensures)

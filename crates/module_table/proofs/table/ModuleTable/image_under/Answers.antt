-- The table's own law, at what contracts see.
use Rattle.std.proofs.Common.{subst, slice_get}
use Rattle.module_table.specs.Past.{Past}
use Rattle.module_table.specs.Tables.{IsTheImageUnder}
use Rattle.module_table.proofs.Lookups.{instance_found}
use Rattle.module_table.proofs.table.ModuleTable.image_under.Goals as goal

pub returns : goal.returns
returns c =
    rw (c.image_in.ensures, c.deref.ensures.value)
    (subst (λ (p : Past). IsTheImageUnder p c.args.id
    (slice_get c.self.inside.image_by_id.items c.args.id)) c.self.view_is
    (instance_found _ _ c.args.id c.self.invariant.past.none c.self.invariant.id_slots))

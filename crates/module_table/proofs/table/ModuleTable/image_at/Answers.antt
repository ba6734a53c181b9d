-- The table's own law, at what contracts see.
use Rattle.std.proofs.Common.{subst, slice_get}
use Rattle.module_table.specs.Past.{Past}
use Rattle.module_table.specs.Tables.{IsTheImage}
use Rattle.module_table.proofs.Lookups.{image_found}
use Rattle.module_table.proofs.table.ModuleTable.image_at.Goals as goal

pub returns : goal.returns
returns c =
    rw (c.image_in.ensures, c.deref.ensures.value)
    (subst (λ (p : Past). IsTheImage p c.args.instance
    (slice_get c.self.inside.image_by_instance.items c.args.instance)) c.self.view_is
    (image_found _ _ c.args.instance c.self.invariant.past.none c.self.invariant.instance_slots))

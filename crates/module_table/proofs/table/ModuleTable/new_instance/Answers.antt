-- A late image that is not loaded leaves an id free.
use Rattle.std.proofs.Common.{sym, subst}
use Rattle.module_table.specs.Past.{Past}
use Rattle.module_table.specs.Tables.{past_of, CanLoad, HasFreeId}
use Rattle.module_table.proofs.Steps.{few_loaded}
use Rattle.module_table.proofs.table.ModuleTable.new_instance.Goals as goal

pub least_free-requires : goal.least_free-requires
least_free-requires c =
    subst HasFreeId c.self.view_is
    (few_loaded (past_of c.self.inside) c.args.image c.self.invariant.past
    (subst (λ (p : Past). CanLoad p c.args.image) (sym c.self.view_is) c.requires))

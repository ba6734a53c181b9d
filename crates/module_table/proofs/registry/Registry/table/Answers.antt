-- The tables are those of the history.
use Rattle.std.proofs.Common.{◌≡◌, subst}
use Rattle.module_table.specs.History.{History, left}
use Rattle.module_table.proofs.registry.Registry.table.Goals as goal

pub returns : goal.returns
unfolding left
returns c = subst (λ (h : History). c.self.inside.table ≡ left h) c.self.view_is c.self.invariant.table

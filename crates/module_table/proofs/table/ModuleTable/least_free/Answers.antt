-- The lowest id that no mark stands for is the least that no live instance has.
use Rattle.std.proofs.Common.{sym, ap, ◌∙◌, subst}
use Rattle.module_table.specs.Past.{Past, least_free}
use Rattle.module_table.specs.Tables.{past_of, HasFreeId}
use Rattle.module_table.proofs.Steps.{room_for, least_is}
use Rattle.module_table.proofs.table.ModuleTable.least_free.Goals as goal

pub least_absent-requires : goal.least_absent-requires
least_absent-requires c =
    let few : HasFreeId (past_of c.self.inside) = subst HasFreeId (sym c.self.view_is) c.requires in
    room_for (past_of c.self.inside) _ _ c.self.inside.ids.word c.self.invariant few

pub returns-clause-value : goal.returns-clause-value
returns-clause-value c =
    let few : HasFreeId (past_of c.self.inside) = subst HasFreeId (sym c.self.view_is) c.requires in
    least_is (past_of c.self.inside) _ _ c.self.inside.ids.word c.least_absent.result c.self.invariant few c.least_absent.ensures ∙ ap (λ (p : Past). least_free p.modules) c.self.view_is

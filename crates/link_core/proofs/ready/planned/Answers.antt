use Rattle.std.proofs.Common.{map, rules, subst, sym}
use Rattle.link_needs.specs.Linking.{Linking}
use Rattle.link_tables.specs.Faults.{IsSound}
use Rattle.link_tables.specs.FaultLaws.{ArePrepared}
use Rattle.link_core.proofs.Few.{table_fits}
use Rattle.link_core.proofs.ready.planned.Goals as goal

pub plan_of-requires : goal.plan_of-requires
plan_of-requires g c = (search rules, table_fits c.args.inputs c.requires.prepared.given c.requires.prepared.limits)

pub invariant_of-tables : goal.invariant_of-tables
invariant_of-tables g c =
    subst (λ (l : Linking). ArePrepared l c.args.names.own.items (map (λ name. name.now) c.args.names.imports.keys))
    (sym c.in_ok-plan.ensures) c.requires.prepared

pub invariant_of-result : goal.invariant_of-result
invariant_of-result g c = subst IsSound (sym c.in_ok-plan.ensures) c.requires.sound

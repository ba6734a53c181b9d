use Rattle.object_rules.specs.declared.fault.FaultKind.TheVariants.{Sequence, StrayCall}
use Rattle.sequence_match.specs.Finding.{AreSitesFrom, IsFirstBelow}
use Rattle.sequence_match.proofs.finding.find_all.Given as goal

abbrev pub invariant-loop-section : goal.invariant-loop-section
invariant-loop-section l = record {
  sites : AreSitesFrom l.object 1 l.section l.sites.items;
  loose : IsFirstBelow Sequence l.object l.section l.loose;
  stray : IsFirstBelow StrayCall l.object l.section l.stray;
}

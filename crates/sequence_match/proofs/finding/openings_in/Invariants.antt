use Rattle.sequence_match.specs.Finding.{IsLeastBelow, IsLooseIn, IsStrayIn}
use Rattle.sequence_match.proofs.Found.{SitesBelow}
use Rattle.sequence_match.proofs.finding.openings_in.Given as goal

abbrev pub invariant-loop-entry : goal.invariant-loop-entry
invariant-loop-entry l = record {
  sites : SitesBelow l.code l.entry l.sites.items;
  loose : IsLeastBelow (IsLooseIn l.code) l.entry l.loose;
  stray : IsLeastBelow (IsStrayIn l.code) l.entry l.stray;
}

use Rattle.sequence_forms.specs.declared.places.Site.{Site}
use Rattle.sequence_match.proofs.Spans.{RiseTo}
use Rattle.sequence_match.proofs.finding.are_rising.Given as goal

abbrev pub invariant-loop-index : goal.invariant-loop-index
invariant-loop-index l = RiseTo Site (λ site. site.start) l.sites l.index

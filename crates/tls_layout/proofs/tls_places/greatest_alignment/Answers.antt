use Rattle.tls_layout.proofs.Together.{greatest_more, greatest_power}
use Rattle.tls_layout.proofs.tls_places.greatest_alignment.Goals as goal

pub loop-section-preserved : goal.loop-section-preserved
loop-section-preserved c = record {
  greatest = greatest_more _ _ _ _ _ c.loop-section-test.true c.loop-section.invariant.greatest c.greater_alignment-greatest.ensures;
  power = rw c.greater_alignment-greatest.ensures
      (greatest_power _ _ _ _ c.loop-section-test.true c.requires c.loop-section.invariant.power);
}

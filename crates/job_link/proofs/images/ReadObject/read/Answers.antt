use Rattle.std.proofs.Common.{List, ℕ, subst}
use Rattle.object_rules.specs.declared.fault.FaultKind.TheVariants.{Sequence, StrayCall}
use Rattle.sequence_match.specs.Faults.{Nowhere}
use Rattle.job_link.specs.Given.{Allows}
use Rattle.job_link.proofs.images.ReadObject.read.Goals as goal

pub returns-in-Ok-sites-clause-taken : goal.returns-in-Ok-sites-clause-taken
returns-in-Ok-sites-clause-taken c = record {
  sound = record {
    object = c.in-Ok.ensures.object.1;
    no_loose = subst (λ (b : List ℕ). Nowhere Sequence b) c.in-Ok.ensures.object.0 c.in-Ok-sites.ensures.no_loose;
    no_stray = subst (λ (b : List ℕ). Nowhere StrayCall b) c.in-Ok.ensures.object.0 c.in-Ok-sites.ensures.no_stray;
  };
  allowed = subst (λ (b : List ℕ). Allows c.args.writable b) c.in-Ok.ensures.object.0 c.in-None.ensures;
}

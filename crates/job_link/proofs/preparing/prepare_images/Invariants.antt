use Rattle.std.proofs.Common.{◌≡◌, ◌<◌, ℕ, Some, map, take}
use Rattle.std.specs.Prelude.{slice_get}
use Rattle.link_core.specs.Faults.{Links}
use Rattle.job_link.specs.Given.{Given}
use Rattle.job_link.specs.Linked.{link_in}
use Rattle.job_link.proofs.preparing.prepare_images.Given as goal

abbrev pub invariant-loop-number : goal.invariant-loop-number
invariant-loop-number g l = record {
  ready : l.all.items ≡ map (link_in l.images l.relax) (take l.number l.images);
  links : (k : ℕ) (g : Given) → k < l.number → slice_get l.images k ≡ Some g → Links (link_in l.images l.relax g);
}

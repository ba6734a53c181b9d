use Rattle.std.proofs.Common.{◌≡◌, ◌<◌, ◌↔◌, ℕ, length}
use Rattle.sequence_match.specs.Code.{Names}
use Rattle.sequence_match.specs.Faults.{IsGetter}
use Rattle.sequence_match.proofs.finding.find_getters.Given as goal

abbrev pub invariant-loop-number : goal.invariant-loop-number
invariant-loop-number l = record {
  len : length l.getters.items ≡ l.number;
  are : (n : ℕ) → n < l.number → Names l.getters.items n ↔ IsGetter l.object n;
}

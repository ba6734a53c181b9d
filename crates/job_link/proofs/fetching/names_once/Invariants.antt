use Rattle.std.proofs.Common.{◌≡◌, take, []}
use Rattle.job_link.specs.Walks.{names_in, texts, unseen}
use Rattle.job_link.proofs.fetching.names_once.Given as goal

abbrev pub invariant-loop-number : goal.invariant-loop-number
invariant-loop-number l = record {
  items : l.number-items ≡ l.job.mentions;
  so_far : texts l.names.keys ≡ unseen [] (names_in l.job (take l.number-index l.number-items));
}

use Rattle.std.proofs.Common.{◌≡◌, ◌++◌, take}
use Rattle.job_link.specs.Walks.{texts, unseen}
use Rattle.job_link.proofs.fetching.add_names.Given as goal

abbrev pub invariant-loop-object : goal.invariant-loop-object
invariant-loop-object l = record {
  items : l.object-items ≡ l.image.objects;
  so_far :
      texts l.names.keys
      ≡ texts l.initial.names.keys ++ unseen (texts l.initial.names.keys) (take l.object-index l.object-items);
}

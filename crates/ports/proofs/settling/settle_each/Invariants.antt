use Rattle.std.proofs.Common.{◌≡◌, ℕ, Global, Result, Vec, length, take}
use Rattle.std.specs.List.{AllZip}
use Rattle.std.specs.Vec.Iter.{into_iter_items}
use Rattle.ports.specs.declared.faults.FetchFault.{FetchFault}
use Rattle.ports.specs.Claims.{Brings, IsFileOf}
use Rattle.ports.specs.ClaimLaws.{Settles}
use Rattle.ports.proofs.settling.settle_each.Given as goal

-- the files of the first claims have come, and how the rest are settled is how all are
abbrev pub invariant-loop-claim : goal.invariant-loop-claim
invariant-loop-claim g l = record {
  files_are : g.C.Counts.files l.store ≡ g.C.Counts.files l.initial.store;
  faults_are : g.C.Counts.faults l.store ≡ g.C.Counts.faults l.initial.store;
  came :
      AllZip (IsFileOf (g.C.Counts.files l.initial.store)) (take (length l.yielded) l.fn.claims.items) l.files.items;
  brought : AllZip Brings (take (length l.yielded) l.fn.claims.items) l.files.items;
  all :
      (now : ℕ) (ended : Result (Vec (Vec ℕ Global) Global) FetchFault)
      → Settles (g.C.Counts.due l.store) now (into_iter_items l.claim-iterator) ended
      → Settles (g.C.Counts.due l.initial.store) now l.fn.claims.items ended;
}

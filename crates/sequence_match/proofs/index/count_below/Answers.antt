use Rattle.std.proofs.Common.{rules}
use Rattle.std.specs.Prelude.{nat_lt}
use Rattle.std.proofs.lemmas.Bool.{ltb-false, ltb-true}
use Rattle.std.proofs.lemmas.List.Sorted.{IsPartitionPoint-from_clause, IsPartitionedBy-ltb}
use Rattle.sequence_match.proofs.index.count_below.Goals as goal

pub returns : goal.returns
returns c =
    let parted = IsPartitionedBy-ltb (λ span. span.offset) _ c.args.limit c.requires.rising.by_offset in
    let point = IsPartitionPoint-from_clause
    (λ span. nat_lt span.offset c.args.limit) _ _ c.partition_point.ensures.partitioned parted
    (λ a r q k. search rules) in
    record {
      few = c.partition_point.ensures.bound;
      below = λ k d from inside. ltb-true _ _ (point.0 k d from inside);
      above = λ k d from inside. ltb-false _ _ (point.1 k d from inside);
    }

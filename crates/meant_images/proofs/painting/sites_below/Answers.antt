use Rattle.std.proofs.Common.{rules}
use Rattle.std.specs.Prelude.{nat_lt}
use Rattle.std.proofs.lemmas.Bool.{ltb-false, ltb-true}
use Rattle.std.proofs.lemmas.List.Sorted.{IsPartitionPoint-from_clause, IsPartitionedBy-ltb}
use Rattle.sequence_forms.specs.declared.places.Site.{Site}
use Rattle.meant_images.proofs.painting.sites_below.Goals as goal

pub returns : goal.returns
returns c =
    let parted = IsPartitionedBy-ltb (λ (site : Site). site.section) _ c.args.section c.requires.rising in
    let point = IsPartitionPoint-from_clause (λ (site : Site). nat_lt site.section c.args.section) _ _
    c.partition_point.ensures.partitioned parted (λ a r q k. search rules) in
    record {
      few = c.partition_point.ensures.bound;
      below = λ k d from inside. ltb-true _ _ (point.0 k d from inside);
      above = λ k d from inside. ltb-false _ _ (point.1 k d from inside);
    }

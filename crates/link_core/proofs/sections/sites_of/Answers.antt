use Rattle.std.proofs.Common.{arith, rules}
use Rattle.std.specs.Prelude.{nat_le, nat_lt}
use Rattle.std.proofs.lemmas.Bool.{leb-false, leb-true, ltb-false, ltb-true}
use Rattle.std.proofs.lemmas.List.Sorted.{IsPartitionPoint-from_clause, IsPartitionedBy-leb, IsPartitionedBy-ltb}
use Rattle.link_core.proofs.WritingSites.{cut_is, cut_own, in_order, sites_rise, AreCut}
use Rattle.link_core.proofs.sections.sites_of.Goals as goal

pub returns : goal.returns
returns c =
    let t = c.args.section in
    let sites = c.args.sites.now in
    let rise = sites_rise sites c.requires in
    let from = c.partition_point-first.result in
    let to = c.partition_point-end.result in
    let low = IsPartitionPoint-from_clause
    (λ site. nat_lt site.section t) _ _ c.partition_point-first.ensures.partitioned
    (IsPartitionedBy-ltb (λ site. site.section) sites t rise) (λ a r q k. search rules) in
    let high = IsPartitionPoint-from_clause
    (λ site. nat_le site.section t) _ _ c.partition_point-end.ensures.partitioned
    (IsPartitionedBy-leb (λ site. site.section) sites t rise) (λ a r q k. search rules) in
    let cut : AreCut t sites from to = record {
      below = λ k d less. ltb-true _ _ (low.0 k d (omega arith) less);
      above = λ k d most inside. ltb-false _ _ (low.1 k d most inside);
      upto = λ k d less. leb-true _ _ (high.0 k d (omega arith) less);
      past = λ k d most inside. leb-false _ _ (high.1 k d most inside);
    } in
    let order = in_order t sites from to c.partition_point-first.ensures.bound cut in
    record {
      range = (order, c.partition_point-end.ensures.bound);
      own = cut_own t sites from to c.partition_point-end.ensures.bound cut;
      sites = cut_is t sites from to order c.partition_point-end.ensures.bound cut;
    }

use Rattle.std.proofs.Common.{◌≡◌, ◌*◌, ◌≤◌, ap, length, subst, sym}
use Rattle.std.specs.List.{All}
use Rattle.std.specs.Option.{IsSome}
use Rattle.got_pairs.specs.Needs.{entries, start_of, total_size}
use Rattle.got_pairs.specs.Plans.{Table}
use Rattle.got_pairs.proofs.Distinct.{group_by_group}
use Rattle.got_pairs.proofs.Served.{served, small}
use Rattle.got_pairs.proofs.Starts.{table}
use Rattle.got_pairs.proofs.got_plan.plan.Goals as goal

pub returns : goal.returns
returns c =
    let plan_is : c.add_group-6.new.self ≡ table c.args.kind c.args.block_offset (entries c.args.needs.now) =
    rw (
      c.in_ok-add_group-6.ensures,
      c.in_ok-add_group-5.ensures,
      c.in_ok-add_group-4.ensures,
      c.in_ok-add_group-3.ensures,
      c.in_ok-add_group-2.ensures,
      c.in_ok-add_group.ensures,
      c.empty-plan.ensures,
    )
    (ap (table c.args.kind c.args.block_offset) (group_by_group c.args.needs.now)) in
    let Serves : Table → Type 0 = λ t. All (λ need. IsSome (start_of t.entries need)) c.args.needs.now in
    let IsSmall : Table → Type 0 = λ t. total_size t.entries ≤ 16 * length c.args.needs.now in
    record {
      plan = plan_is;
      served = subst Serves (sym plan_is) (served c.args.needs.now);
      small = subst IsSmall (sym plan_is) (small c.args.needs.now);
    }

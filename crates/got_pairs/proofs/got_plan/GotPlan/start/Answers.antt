use Rattle.std.proofs.Common.{◌≡◌, ◌∙◌, ap}
use Rattle.std.specs.Map.{keys_of, lookup}
use Rattle.got_pairs.specs.Needs.{same_need, start_of}
use Rattle.got_pairs.proofs.Served.{within}
use Rattle.got_pairs.proofs.Starts.{eq_same, lookup_starts}
use Rattle.got_pairs.proofs.got_plan.GotPlan.start.Goals as goal

module _ (c : goal.After-copied) where
  value : c.copied.result ≡ start_of c.args.self.now.entries c.args.need.now
  value =
      let es = c.self.inside.starts.entries in
      let need = c.args.need.now in
      c.copied.ensures ∙ c.get.ensures.value ∙ ap (λ eq. lookup (eq need) es) eq_same
      ∙ ap (lookup (same_need need)) c.self.invariant.0
      ∙ lookup_starts need 0 (keys_of es) ∙ ap (λ t. start_of t.entries need) c.self.view_is

pub returns : goal.returns
returns c = record {
  start = value c;
  within = within c.args.self.now.entries c.args.need.now c.copied.result (value c);
}

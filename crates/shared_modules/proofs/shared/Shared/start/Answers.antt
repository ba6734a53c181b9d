-- The table at its start keeps the rule.
use Rattle.std.proofs.Common.{rules, ◌≡◌, [], ◌∷◌, Some}
use Rattle.shared_modules.proofs.Calls.{begun_pass}
use Rattle.shared_modules.proofs.Ends.{begins}
use Rattle.shared_modules.proofs.shared.Shared.start.Goals as goal

pub new-requires : goal.new-requires
new-requires c =
    let slots : c.push.new.self.items ≡ Some c.args.registry ∷ [] = search rules in
    begins c.args.registry _ _ _ c.of-about.ensures slots c.len-seen.ensures.value c.len-seen.ensures.legal

pub invariant_of-result-2 : goal.invariant_of-result-2
invariant_of-result-2 c =
    begun_pass c.args.registry _ _ _ c.of-about.ensures c.len-seen.ensures.value c.len-seen.ensures.legal c.in-Ok.ensures.ok.4

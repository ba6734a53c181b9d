use Rattle.std.proofs.Common.{◌≡◌, drop}
use Rattle.link_needs.specs.Needs.{any_stub_call}
use Rattle.link_needs.proofs.inputs.Inputs.has_stub.Given as goal

abbrev pub invariant-loop-object : goal.invariant-loop-object
invariant-loop-object l =
    any_stub_call l.self l.object (drop l.object l.self.sites) ≡ any_stub_call l.self 0 l.self.sites

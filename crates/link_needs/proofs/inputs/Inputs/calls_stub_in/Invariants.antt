use Rattle.std.proofs.Common.{◌≡◌, drop}
use Rattle.std.specs.List.{list_any}
use Rattle.link_needs.specs.Needs.{is_stub_call}
use Rattle.link_needs.proofs.inputs.Inputs.calls_stub_in.Given as goal

abbrev pub invariant-loop-number : goal.invariant-loop-number
invariant-loop-number l =
    list_any (is_stub_call l.self l.object) (drop l.number l.own) ≡ list_any (is_stub_call l.self l.object) l.own

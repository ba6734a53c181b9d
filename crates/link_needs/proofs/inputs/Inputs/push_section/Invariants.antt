use Rattle.std.proofs.Common.{◌≡◌, ◌++◌, drop}
use Rattle.std.specs.List.{flat_map}
use Rattle.link_needs.specs.Needs.{address_needs}
use Rattle.link_needs.proofs.inputs.Inputs.push_section.Given as goal

abbrev pub invariant-loop-relocation : goal.invariant-loop-relocation
invariant-loop-relocation l =
    l.needs.items ++ flat_map (address_needs l.self l.object) (drop l.relocation-index l.relocation-items)
    ≡ l.fn.needs.items ++ flat_map (address_needs l.self l.object) l.relocation-items

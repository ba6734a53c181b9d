use Rattle.std.proofs.Common.{◌≡◌, ◌++◌, drop, take}
use Rattle.std.specs.List.{flat_map}
use Rattle.link_needs.specs.Linking.{sites_at}
use Rattle.link_needs.specs.Needs.{site_needs}
use Rattle.link_needs.proofs.inputs.Inputs.own_wanted.Given as goal
use Rattle.link_needs.specs.Linking.{choice}
use Rattle.std.specs.Prelude.{map}

abbrev pub invariant-loop-site : goal.invariant-loop-site
invariant-loop-site l =
    (l.sites.items ++ flat_map (site_needs l.self l.object) (drop l.site-index (sites_at l.self l.object))
    ≡ flat_map (site_needs l.self l.object) (sites_at l.self l.object)) ×
    (l.choices.items ≡ map (choice l.self l.object) (take l.site-index (sites_at l.self l.object)))

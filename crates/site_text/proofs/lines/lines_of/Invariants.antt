use Rattle.std.proofs.Common.{◌≡◌, length, take}
use Rattle.std.specs.List.{flat_map, zip}
use Rattle.site_text.specs.Lines.{site_line}
use Rattle.site_text.proofs.lines.lines_of.Given as goal

-- the lines of the sites so far
abbrev pub invariant-loop-site : goal.invariant-loop-site
invariant-loop-site l =
    l.lines.items
    ≡ flat_map (λ site. site_line l.name l.object site.0 site.1) (take (length l.yielded) (zip l.sites l.choices))

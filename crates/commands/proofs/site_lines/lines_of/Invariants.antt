use Rattle.std.proofs.Common.{◌≡◌, ◌++◌, map}
use Rattle.commands.specs.Links.{lines_of}
use Rattle.commands.proofs.SiteLines.{left}
use Rattle.commands.proofs.site_lines.lines_of.Given as goal

-- with the lines of the objects that are left they are all
abbrev pub invariant-loop-number : goal.invariant-loop-number
invariant-loop-number l =
    let choices = map (λ own. own.items) l.choices in
    l.lines.items ++ left l.names l.image.objects l.image.sites choices l.number
    ≡ lines_of l.names l.image.objects l.image.sites choices

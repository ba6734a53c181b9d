use Rattle.std.proofs.Common.{arith}
use Rattle.sequence_forms.specs.declared.forms.Form.TheVariants.{Gd}
use Rattle.sequence_forms.specs.declared.places.Site.{Site}
use Rattle.sequence_match.proofs.Spans.{rise_more}
use Rattle.sequence_match.proofs.finding.are_rising.Goals as goal

pub loop-index-preserved : goal.loop-index-preserved
loop-index-preserved c =
    let none : Site = record { section = 0; start = 0; len = 0; form = Gd; symbol = 0; reg = 0 } in
    rise_more (λ site. site.start) c.args.sites.now c.loop-index.index none c.loop-index.invariant c.loop-index.auto.index (omega (arith, c.if-sites-index.false))

use Rattle.std.proofs.Common.{◌+◌, ◌∙◌, List, sym, subst}
use Rattle.sequence_forms.specs.declared.places.Site.{Site}
use Rattle.sequence_match.specs.Finding.{AreSitesFrom}
use Rattle.sequence_match.proofs.Unused.{no_sites, none_loose, none_stray}
use Rattle.sequence_match.proofs.finding.find_in_section.Goals as goal

pub returns : goal.returns
returns c =
    let b = c.args.object.now in
    let s = c.args.section in
    let none = sym c.has_use.ensures ∙ c.if-has_use.false in
    let P : List Site → Type 0 = λ sites. AreSitesFrom b s (s + 1) sites in
    record {
      sites = subst P (sym c.new.ensures.items) (no_sites b s c.args.getters.now c.requires none);
      loose = none_loose b s c.args.getters.now c.requires none;
      stray = none_stray b s c.args.getters.now c.requires none;
    }

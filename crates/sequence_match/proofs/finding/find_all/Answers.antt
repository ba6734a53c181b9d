use Rattle.std.proofs.Common.{◌+◌, ◌≤◌, List, sym, subst, arith}
use Rattle.object_rules.specs.declared.fault.FaultKind.TheVariants.{Sequence, StrayCall}
use Rattle.elf_object.specs.Parts.{header}
use Rattle.sequence_forms.specs.declared.places.Site.{Site}
use Rattle.sequence_match.specs.Finding.{AreSitesFrom}
use Rattle.sequence_match.proofs.Surveys.{below_all, below_first}
use Rattle.sequence_match.proofs.Tables.{sites_append, sites_before, sites_done}
use Rattle.sequence_match.proofs.finding.find_all.Goals as goal

pub loop-section-init : goal.loop-section-init
loop-section-init c =
    let P : List Site → Type 0 = λ sites. AreSitesFrom c.args.object.now 1 1 sites in
    record {
      sites = subst P (sym c.new-sites.ensures.items) (sites_before c.args.object.now);
      loose = below_first Sequence c.args.object.now;
      stray = below_first StrayCall c.args.object.now;
    }

pub loop-section-preserved : goal.loop-section-preserved
loop-section-preserved c =
    let P : List Site → Type 0 = λ sites. AreSitesFrom c.args.object.now 1 (c.loop-section.section + 1) sites in
    record {
      sites = subst P (sym c.in_ok-sites.ensures)
          (sites_append c.args.object.now c.loop-section.section c.loop-section.sites.items c.in_ok-found.found.sites.items c.loop-section.auto.section c.loop-section.invariant.sites
          c.in_ok-found.ensures.sites);
      loose = c.first_with-loose.ensures;
      stray = c.first_with-stray.ensures;
    }

pub returns : goal.returns
returns c =
    let b = c.args.object.now in
    let n = c.loop-section.section in
    let all : (header b).e_shnum ≤ n = omega (arith, c.section_count-section-end.ensures.count) in
    record {
      sites = sites_done b n c.loop-section.sites.items all c.loop-section.invariant.sites;
      loose = below_all Sequence b n c.loop-section.loose all c.loop-section.invariant.loose;
      stray = below_all StrayCall b n c.loop-section.stray all c.loop-section.invariant.stray;
    }

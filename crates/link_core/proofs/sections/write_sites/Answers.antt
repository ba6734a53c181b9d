use Rattle.std.proofs.Common.{◌+◌, ◌∙◌, List, refl, sym, ap, subst}
use Rattle.std.specs.Prelude.{fold, slice_range}
use Rattle.std.specs.List.{AllPairs}
use Rattle.sequence_forms.specs.declared.places.Site.{Site}
use Rattle.sequence_match.specs.Faults.{Before}
use Rattle.link_core.specs.Bytes.{with_site}
use Rattle.link_core.proofs.WritingSites.{sequence_step}
use Rattle.link_core.proofs.sections.write_sites.Goals as goal

pub sites_of-first-requires : goal.sites_of-first-requires
sites_of-first-requires c =
    subst (λ (sites : List Site). AllPairs Before sites) (sym c.own_sites-sites.ensures)
    (c.is_given.ensures.given.are_sites c.args.own.object c.requires.object).rising

pub loop-number-preserved : goal.loop-number-preserved
loop-number-preserved c =
    let l = c.args.plan.now in
    let o = c.args.own.object in
    let n = c.loop-number.number in
    let end = c.sites_of-first.result.1 in
    let sites = c.own_sites-sites.result.now in
    let same = c.own_sites-sites.ensures in
    let old = c.loop-number.bytes in
    let new = c.write_sequence.new.bytes in
    let kept = c.loop-number.invariant in (
      ap (λ (sites : List Site). fold (with_site l o) new (slice_range sites (n + 1) end)) (sym same)
          ∙ sequence_step l o sites n end new old _ _ c.loop-number-test.true c.sites_of-first.ensures.range.1
          c.write_sequence.ensures.written refl
          ∙ ap (λ (sites : List Site). fold (with_site l o) old (slice_range sites n end)) same ∙ kept.0,
      c.write_sequence.ensures.filled ∙ kept.1,
    )

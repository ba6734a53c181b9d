use Rattle.std.proofs.Common.{ap, arith, length, subst, sym}
use Rattle.std.proofs.lemmas.List.{length-map}
use Rattle.std.specs.List.{All}
use Rattle.link_needs.specs.Given.{IsGiven}
use Rattle.link_needs.specs.Plans.{IsUsable}
use Rattle.link_needs.specs.Linking.{Linking, object}
use Rattle.link_needs.proofs.PlanLemmas.{own_usable}
use Rattle.meant_images.proofs.kept.own_sites.Goals as goal

pub returns-clause-usable : goal.returns-clause-usable
returns-clause-usable c =
    let l = c.args.inputs.now in
    let given : IsGiven l = subst IsGiven c.inputs.view_is c.inputs.invariant.given in
    let sites = simp length-map at (ap (λ (l : Linking). length l.sites) c.inputs.view_is) in
    let each = given.each in
    subst (All (IsUsable (object l c.args.number))) (sym c.as_slice.ensures.value)
    (own_usable l c.inputs.inside.sites.now (ap (λ (l : Linking). l.sites) c.inputs.view_is) c.args.number
    c.index-sites-number.result c.index-sites-number.is (omega (arith, sites, each, c.requires)) given)

pub returns-clause-all : goal.returns-clause-all
returns-clause-all c =
    let given : IsGiven c.args.inputs.now = subst IsGiven c.inputs.view_is c.inputs.invariant.given in
    given.are_sites c.args.number c.requires

use Rattle.std.proofs.Common.{ap, arith, length, subst, sym}
use Rattle.std.proofs.lemmas.List.{length-map}
use Rattle.std.specs.List.{All}
use Rattle.link_needs.specs.Given.{IsGiven}
use Rattle.link_needs.specs.Plans.{IsUsable}
use Rattle.link_needs.specs.Linking.{Linking, object}
use Rattle.link_needs.proofs.PlanLemmas.{own_usable}
use Rattle.link_needs.proofs.inputs.Inputs.own_wanted.Goals as goal

pub push_site-requires-clause-site : goal.push_site-requires-clause-site
push_site-requires-clause-site c =
    let l = c.args.self.now in
    let given : IsGiven l = subst IsGiven c.self.view_is c.self.invariant.given in
    let sites = simp length-map at (ap (λ (l : Linking). length l.sites) c.self.view_is) in
    let each = given.each in
    subst (All (IsUsable (object l c.args.object))) (sym c.as_slice-own.ensures.value)
    (own_usable l c.self.inside.sites.now (ap (λ (l : Linking). l.sites) c.self.view_is) c.args.object
    c.index-all-object.result c.index-all-object.is (omega (arith, sites, each, c.requires)) given)
    c.loop-site.site-index _ c.loop-site-test.true

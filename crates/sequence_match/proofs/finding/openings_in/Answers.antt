use Rattle.std.proofs.Common.{◌+◌, ◌-◌, ◌≡◌, ◌<◌, ◌∙◌, ℕ, List, Option, length, sym, ap, subst, arith}
use Rattle.std.specs.Slice.{IsGetResult}
use Rattle.object_rules.specs.declared.fault.FaultKind.TheVariants.{Sequence, StrayCall}
use Rattle.sequence_forms.specs.declared.places.Site.{Site}
use Rattle.sequence_match.specs.Code.{Names}
use Rattle.sequence_match.specs.Finding.{IsLeastBelow, IsLooseIn, IsStrayIn}
use Rattle.sequence_match.proofs.Found.{SitesBelow, found_not_loose, last_found, least_all, least_more, sites_all}
use Rattle.sequence_match.proofs.Found.{sites_more, sites_same, stands_within}
use Rattle.sequence_match.proofs.finding.openings_in.Goals as goal
use Rattle.sequence_match.proofs.finding.openings_in.Goals.{in-Some+in_ok-push-in-Some, in-None}

pub stray_up_to-stray-requires-clause-known : goal.stray_up_to-stray-requires-clause-known
stray_up_to-stray-requires-clause-known c =
    let L : List Site → Type 0 = λ sites. IsGetResult sites 0 (length sites - 1) c.last.result in
    last_found c.args.code.now c.loop-entry.entry c.loop-entry.sites.items c.last.result c.loop-entry.invariant.sites
    (subst L c.deref.ensures.value c.last.ensures.item)

pub loop-entry-preserved : goal.loop-entry-preserved
loop-entry-preserved c =
    let code = c.args.code.now in
    let n = c.loop-entry.entry in
    let P : List Site → Type 0 = λ sites. SitesBelow code (n + 1) sites in
    let Q : Option ℕ → Type 0 = λ loose. IsLeastBelow (IsLooseIn code) (n + 1) loose in
    elim c.match-form_of.branch [
      | in-Some+in_ok-push-in-Some w ↦ record {
        sites = subst P (sym (ap (λ v. v.items) w.sites-is ∙ w.in_ok-push-in-Some.ensures.items))
            (sites_more code n c.loop-entry.sites.items c.loop-entry.invariant.sites w.site_at.result w.site_at.ensures.found);
        loose = subst Q (sym w.loose-is) (least_more (IsLooseIn code) n c.loop-entry.loose c.loop-entry.invariant.loose
            (found_not_loose code n w.site_at.result w.site_at.ensures.found));
        stray = c.stray_up_to-stray.ensures;
      }
      | in-None w ↦ record {
        sites = subst P (sym (ap (λ v. v.items) w.sites-is))
            (sites_same code n c.loop-entry.sites.items c.loop-entry.invariant.sites w.in-None.ensures);
        loose = subst Q (sym w.loose-is) w.loose_up_to-loose.ensures;
        stray = c.stray_up_to-stray.ensures;
      }
    ]

pub returns-clause-sites : goal.returns-clause-sites
returns-clause-sites c =
    sites_all c.args.code.now c.loop-entry.entry c.loop-entry.sites.items (omega arith) c.loop-entry.invariant.sites

pub returns-clause-loose : goal.returns-clause-loose
returns-clause-loose c =
    let code = c.args.code.now in
    let n = c.loop-entry.entry in
    let all : n ≡ length code.relocations.now = omega arith in
    let within : (e : ℕ) → IsLooseIn code e → e < n = λ e h.
    omega (arith, all, stands_within Sequence code.bytes.now code.relocations.now (Names code.getters.now) e h) in
    least_all (IsLooseIn code) n c.loop-entry.loose within c.loop-entry.invariant.loose

pub returns-clause-stray : goal.returns-clause-stray
returns-clause-stray c =
    let code = c.args.code.now in
    let n = c.loop-entry.entry in
    let all : n ≡ length code.relocations.now = omega arith in
    let within : (e : ℕ) → IsStrayIn code e → e < n = λ e h.
    omega (arith, all, stands_within StrayCall code.bytes.now code.relocations.now (Names code.getters.now) e h) in
    least_all (IsStrayIn code) n c.loop-entry.stray within c.loop-entry.invariant.stray

use Rattle.std.proofs.Common.{◌≡◌, ◌∙◌, rules, subst, sym}
use Rattle.std.specs.Prelude.{IfErr, IfOk, OnOk}
use Rattle.link_core.specs.Faults.{IsLinkFault, IsSound, Links}
use Rattle.link_needs.specs.Linking.{Linking}
use Rattle.job_link.proofs.Exported.{made_beside, sites_held}
use Rattle.job_link.proofs.preparing.ready_one.Goals as goal

pub prepare-requires-clause-sites : goal.prepare-requires-clause-sites
prepare-requires-clause-sites g c κs within =
    sites_held c.objects.result.now c.sites.result.now c.args.image.now c.objects.ensures.objects c.sites.ensures.sites
    c.objects.ensures.given

pub fitting-requires : goal.fitting-requires
fitting-requires g c = subst IsSound (sym c.in-Ok.ensures.ready) c.in-Ok.ensures.sound

pub returns-in-Ok-clause-ready : goal.returns-in-Ok-clause-ready
returns-in-Ok-clause-ready g c =
    let same = c.in-Ok.ensures.ready
    ∙ made_beside c.objects.result.now c.sites.result.now c.kind.result c.args.startup.now c.args.relax c.args.image.now
    c.objects.ensures.objects c.sites.ensures.sites c.kind.ensures.kind in
    subst (λ (l : Linking). IfOk c.fitting.result (λ ready. ready ≡ l)) same c.fitting.ensures.ready

pub returns-in-Ok-clause-links : goal.returns-in-Ok-clause-links
returns-in-Ok-clause-links g c =
    let same = c.in-Ok.ensures.ready
    ∙ made_beside c.objects.result.now c.sites.result.now c.kind.result c.args.startup.now c.args.relax c.args.image.now
    c.objects.ensures.objects c.sites.ensures.sites c.kind.ensures.kind in
    subst (λ (l : Linking). OnOk c.fitting.result (Links l)) same c.fitting.ensures.links

pub returns-in-Ok-clause-fault : goal.returns-in-Ok-clause-fault
returns-in-Ok-clause-fault g c =
    let same = c.in-Ok.ensures.ready
    ∙ made_beside c.objects.result.now c.sites.result.now c.kind.result c.args.startup.now c.args.relax c.args.image.now
    c.objects.ensures.objects c.sites.ensures.sites c.kind.ensures.kind in
    subst (λ (l : Linking). IfErr c.fitting.result (IsLinkFault l)) same c.fitting.ensures.fault

pub returns-in-Err-clause-fault : goal.returns-in-Err-clause-fault
returns-in-Err-clause-fault g c =
    subst (λ (l : Linking). IsLinkFault l c.in-Err.fault)
    (made_beside c.objects.result.now c.sites.result.now c.kind.result c.args.startup.now c.args.relax c.args.image.now
    c.objects.ensures.objects c.sites.ensures.sites c.kind.ensures.kind)
    c.in-Err.ensures.fault

use Rattle.std.proofs.Common.{◌∙◌, ap}
use Rattle.link_needs.specs.Linking.{Linking, binding}
use Rattle.link_needs.specs.Needs.{need_address, need_by, relocation_need}
use Rattle.link_needs.proofs.plan.Plan.entry_place.Goals as goal

pub returns : goal.returns
unfolding relocation_need
returns c =
    let l = c.args.self.now in
    let o = c.args.object in
    let r = c.args.relocation.now in
    let bound = c.bound-bound.ensures.binding ∙ ap (λ (l : Linking). binding l o r) c.self.view_is in
    c.need_address.ensures
    ∙ ap (need_address l) (
    c.need.ensures
    ∙ ap (λ m. need_by m o r.symbol c.bound-bound.result r.kind) c.self.view_is
    ∙ ap (λ bound. need_by l o r.symbol bound r.kind) bound)

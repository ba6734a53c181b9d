use Rattle.std.proofs.Common.{◌∙◌, ap, rules, w64, FitsSigned}
use Rattle.std.proofs.Math.Facts.{to_z-of_z}
use Rattle.tls_relocs.specs.Values.{stored_field}
use Rattle.link_needs.specs.Linking.{binding, place as place_of}
use Rattle.link_needs.specs.Values.{field, own_number}
use Rattle.link_needs.specs.Plans.{number_by}
use Rattle.link_needs.proofs.ValueLemmas.{takes_number}
use Rattle.link_needs.proofs.plan.Plan.field.Goals as goal

pub returns-clause-field : goal.returns-clause-field
unfolding field
returns-clause-field c = λ section at.
    let l = c.args.self.now in
    let o = c.args.object in
    let r = c.args.relocation.now in
    let s = own_number l r.kind (binding l o r) in
    let p = place_of l o section r.offset in
    let fits : FitsSigned w64 r.addend = search rules in
    c.value.ensures.stored
    ∙ ap (λ a. stored_field r.kind c.own_number.result a c.args.place c.other_number.result) (to_z-of_z fits)
    ∙ ap (λ n. stored_field r.kind n r.addend c.args.place c.other_number.result)
    (c.own_number.ensures ∙ ap (number_by l r.kind) c.requires.symbol ∙ takes_number l o r)
    ∙ ap (λ n. stored_field r.kind s r.addend n c.other_number.result) at
    ∙ ap (stored_field r.kind s r.addend p) c.other_number.ensures

use Rattle.std.proofs.Common.{◌∙◌, ◌++◌, ap}
use Rattle.std.specs.List.{flat_map}
use Rattle.std.proofs.lemmas.Result.{IfOk-weaker}
use Rattle.link_needs.specs.Needs.{needs}
use Rattle.link_needs.proofs.NeedsLemmas.{absolutes_found, choices_found, fields_found, sites_found}
use Rattle.link_needs.proofs.inputs.Inputs.wanted.Goals as goal
use Rattle.link_needs.specs.Needs.{site_needs}
use Rattle.tls_symbols.specs.Definitions.{flat_map_from}

pub returns-clause-needs : goal.returns-clause-needs
unfolding needs
returns-clause-needs g c =
    let l = c.args.self.now in
    let all = c.in_ok-all.all.items in
    let of_sites = sites_found l all c.in_ok-all.ensures c.is_given.ensures.each in
    let of_fields = fields_found l all c.in_ok-all.ensures in
    IfOk-weaker c.joined.result _ _
    (λ wanted are. are ∙ ap (λ xs. xs ++ flat_map (λ own. own.fields.items) all) of_sites ∙ ap
    (λ xs. flat_map_from (λ o. flat_map (site_needs l o)) 0 l.sites ++ xs) of_fields)
    c.joined.ensures.needs

pub returns-clause-absolutes : goal.returns-clause-absolutes
returns-clause-absolutes g c =
    let of_absolutes = absolutes_found c.args.self.now c.in_ok-all.all.items c.in_ok-all.ensures in
    IfOk-weaker c.joined.result _ _ (λ wanted are. are ∙ of_absolutes) c.joined.ensures.absolutes

pub returns-clause-choices : goal.returns-clause-choices
returns-clause-choices g c =
    let of_choices = choices_found c.args.self.now c.in_ok-all.all.items c.in_ok-all.ensures c.is_given.ensures.each in
    IfOk-weaker c.joined.result _ _ (λ wanted are. are ∙ of_choices) c.joined.ensures.choices

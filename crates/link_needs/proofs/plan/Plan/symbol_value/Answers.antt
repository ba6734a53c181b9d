use Rattle.std.proofs.Common.{◌≡◌, ◌∙◌, ap, length, map, arith}
use Rattle.std.specs.Vec.{vec_len}
use Rattle.link_needs.specs.Plans.{all_values}
use Rattle.link_needs.proofs.ValueLemmas.{value_at, value_there, values_there}
use Rattle.link_needs.proofs.plan.Plan.symbol_value.Goals as goal

pub index-own-requires : goal.index-own-requires
index-own-requires c =
    let values = c.self.inside.values in
    let are : map (λ own. own.items) values.items ≡ all_values c.args.self.now =
    c.self.invariant.values_are ∙ ap all_values c.self.view_is in
    let len : vec_len values ≡ length values.items = values.ok.0 in
    omega (arith, values_there c.args.self.now values.items c.args.object are c.requires.object, len)

pub index-requires : goal.index-requires
index-requires c =
    let values = c.self.inside.values.items in
    let own = c.index-own.result.now in
    let are : map (λ own. own.items) values ≡ all_values c.args.self.now =
    c.self.invariant.values_are ∙ ap all_values c.self.view_is in
    let there =
    value_there c.args.self.now values c.args.object are c.requires.object own c.index-own.ensures c.args.symbol
    c.requires.symbol in
    let len : vec_len own ≡ length own.items = own.ok.0 in
    omega (arith, there, len)

pub returns : goal.returns
returns c =
    let values = c.self.inside.values.items in
    let are : map (λ own. own.items) values ≡ all_values c.args.self.now =
    c.self.invariant.values_are ∙ ap all_values c.self.view_is in
    c.index.ensures
    ∙ value_at c.args.self.now values c.args.object are c.requires.object c.index-own.result.now c.index-own.ensures
    c.args.symbol c.requires.symbol c.index.result.now

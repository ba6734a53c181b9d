use Rattle.std.proofs.Common.{◌++◌, [], ◌∷◌, ◌∙◌, map, sym, ap, arith}
use Rattle.std.specs.List.{range_with_len}
use Rattle.std.proofs.lemmas.List.FromFn.{map-range_with_len_more}
use Rattle.link_needs.specs.Plans.{value_of}
use Rattle.link_needs.proofs.inputs.Inputs.own_values.Goals as goal

pub loop-symbol-preserved : goal.loop-symbol-preserved
loop-symbol-preserved c =
    let f = value_of c.args.self.now c.args.object in
    let n = c.loop-symbol.symbol in
    c.in_ok-push.ensures.items
    ∙ ap (λ xs. xs ++ c.value_of.result ∷ []) c.loop-symbol.invariant
    ∙ ap (λ x. map f (range_with_len 0 n) ++ x ∷ []) c.value_of.ensures
    ∙ sym (map-range_with_len_more f 0 n n (omega arith))

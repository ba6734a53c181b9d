use Rattle.std.proofs.Common.{◌++◌, [], ◌∷◌, ◌∙◌, map, sym, ap, arith}
use Rattle.std.specs.List.{range_with_len}
use Rattle.std.proofs.lemmas.List.{map-append}
use Rattle.std.proofs.lemmas.List.FromFn.{map-range_with_len_more}
use Rattle.std.specs.Global.{Vec}
use Rattle.link_needs.specs.declared.symbol_values.SymbolValue.{SymbolValue}
use Rattle.link_needs.specs.Plans.{values_of}
use Rattle.link_needs.proofs.inputs.Inputs.symbol_values.Goals as goal

pub loop-object-preserved : goal.loop-object-preserved
loop-object-preserved c =
    let f = values_of c.args.self.now in
    let n = c.loop-object.object in
    ap (map (λ (own : Vec SymbolValue). own.items)) c.in_ok-push.ensures.items
    ∙ map-append (λ (own : Vec SymbolValue). own.items) c.loop-object.all.items (c.in_ok-own_values.field-0 ∷ [])
    ∙ ap (λ xs. xs ++ c.in_ok-own_values.field-0.items ∷ []) c.loop-object.invariant
    ∙ ap (λ x. map f (range_with_len 0 n) ++ x ∷ []) c.in_ok-own_values.ensures
    ∙ sym (map-range_with_len_more f 0 n n (omega arith))

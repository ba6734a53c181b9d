use Rattle.std.proofs.Common.{◌∙◌, ◌+◌, ◌-◌, ◌<◌, refl, sym, ap, subst, arith}
use Rattle.std.specs.List.{flat_map, range_with_len}
use Rattle.elf_object.specs.Parts.{symbol_count}
use Rattle.dynamic_symbols.specs.Found.{names_of, IsBound, with_names}
use Rattle.dynamic_symbols.specs.Names.{defined_at, defined_in}
use Rattle.dynamic_symbols.proofs.Adding.{define_here, define_later}
use Rattle.dynamic_symbols.proofs.defining.add_defined.Goals as goal
use Rattle.dynamic_symbols.proofs.defining.add_defined.Goals.{then-is_definition+in_ok-add_name, else-is_definition}

pub loop-symbol-init : goal.loop-symbol-init
unfolding defined_in
loop-symbol-init c = (refl, c.requires.bound)

pub loop-symbol-preserved : goal.loop-symbol-preserved
loop-symbol-preserved c =
    let b = c.args.object.now in
    let a = c.loop-symbol.symbol in
    let below : a < symbol_count b = omega (arith, c.loop-symbol-test.true, c.symbol_count-symbol-end.ensures.count) in
    let seen = names_of c.loop-symbol.found in
    let rest = flat_map (defined_at b) (range_with_len (a + 1) (symbol_count b - (a + 1))) in
    elim c.if-is_definition.branch [
      | then-is_definition+in_ok-add_name w ↦ (
        ap (λ f. with_names (names_of f) rest) w.found-is
            ∙ ap (λ ns. with_names ns rest) w.in_ok-add_name.ensures.names
            ∙ define_here b seen a below (sym c.is_definition.ensures ∙ w.if-is_definition.true)
            ∙ c.loop-symbol.invariant.0,
        subst (IsBound c.args.bindings.now.objects) (sym w.found-is) w.in_ok-add_name.ensures.bound,
      )
      | else-is_definition w ↦ (
        ap (λ f. with_names (names_of f) rest) w.found-is
            ∙ define_later b seen a below (sym c.is_definition.ensures ∙ w.if-is_definition.false)
            ∙ c.loop-symbol.invariant.0,
        subst (IsBound c.args.bindings.now.objects) (sym w.found-is) c.loop-symbol.invariant.1,
      )
    ]

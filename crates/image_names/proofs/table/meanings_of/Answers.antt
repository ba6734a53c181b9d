use Rattle.std.proofs.Common.{◌+◌, ◌∙◌, ap, subst, sym}
use Rattle.image_names.specs.Meanings.{TellsWith, noted}
use Rattle.image_names.proofs.Telling.{none_below, tells_on}
use Rattle.image_names.proofs.table.meanings_of.Goals as goal
use Rattle.image_names.proofs.table.meanings_of.Goals.{in-Some+in-Some-symbol+in_ok-note, in-Some+in_default-symbol}
use Rattle.image_names.proofs.table.meanings_of.Goals.{in_default}

pub loop-number-preserved : goal.loop-number-preserved
loop-number-preserved c =
    let image = c.args.image.now in
    let n = c.loop-number.number in elim c.match-symbol_name.branch [
      | in-Some+in-Some-symbol+in_ok-note w ↦
          subst (TellsWith image (n + 1))
          (sym (ap (λ m. m.entries) w.meanings-is ∙ w.in_ok-note.ensures
          ∙ ap (noted c.loop-number.meanings.entries w.in-Some.name) w.meaning_of.ensures))
          (tells_on image n w.in-Some.name w.in-Some-symbol.symbol w.in-Some.ensures w.in-Some-symbol.ensures c.loop-number.meanings.entries c.loop-number.invariant)
      | in-Some+in_default-symbol w ↦ none_below image.symbols n _ w.in_default-symbol.ensures c.loop-number-test.true c.symbol_count-number-end.ensures.symbols
      | in_default w ↦ none_below image.names n _ w.in_default.ensures c.loop-number-test.true c.symbol_count-number-end.ensures.names
    ]

use Rattle.std.proofs.Common.{arith, sym}
use Rattle.std.proofs.lemmas.Option.{slice_get_within}
use Rattle.loaded_modules.proofs.Relocated.{none_past}
use Rattle.loaded_modules.proofs.Rising.{all_below, none_below, test_true, test_false}
use Rattle.loaded_modules.proofs.searches.is_below.Goals as goal

pub returns-in-Some-clause-below : goal.returns-in-Some-clause-below
returns-in-Some-clause-below c = λ passes.
    let lt = test_true c.from.result c.args.address passes in
    let same = c.from.ensures in
    all_below c.args.image.now c.image_is_spelled.ensures c.args.number c.args.address c.in-Some.relocation c.in-Some.ensures.relocation (omega (arith, lt, same))

pub returns-in-Some-clause-above : goal.returns-in-Some-clause-above
returns-in-Some-clause-above c = λ fails.
    let ge = test_false c.from.result c.args.address fails in
    let same = c.from.ensures in
    none_below c.args.image.now c.image_is_spelled.ensures c.args.number c.args.address c.in-Some.relocation c.in-Some.ensures.relocation (omega (arith, ge, same))

pub returns-in-None-clause-above : goal.returns-in-None-clause-above
returns-in-None-clause-above c = λ fails k r behind at.
    let past = none_past c.args.image.now.relocations c.args.number (sym c.in-None.ensures.relocation) in
    let within = slice_get_within c.args.image.now.relocations k r at in
    absurd (omega (arith, past, within, behind))

-- One relocation more, and all of them.
use Rattle.std.proofs.Common.{◌≤◌, length, refl, sym, subst, arith}
use Rattle.std.specs.List.{All}
use Rattle.std.proofs.lemmas.List.{take_all}
use Rattle.std.proofs.lemmas.List.Elements.{All-more}
use Rattle.std.proofs.lemmas.Option.{get_or_from_slice_get}
use Rattle.race_tests.specs.Plain.{IsPlain}
use Rattle.race_tests.proofs.Fitting.{within_list}
use Rattle.race_tests.proofs.loading.is_plain_image.Goals as goal

pub loop-number-preserved : goal.loop-number-preserved
loop-number-preserved c =
    let all = c.args.image.now.relocations in
    let n = c.loop-number.number in
    let r = c.in-Some.relocation in
    let at = sym c.in-Some.ensures.relocation in
    All-more IsPlain all n r (within_list all n r at) c.loop-number.invariant
    (subst IsPlain (sym (get_or_from_slice_get all n r r at)) (c.if-not-is_plain.ensures refl))

pub returns : goal.returns
returns c = λ yes.
    let past : length c.args.image.now.relocations ≤ c.loop-number.number =
    omega (arith, c.loop-number-test.false, c.relocation_count-number-end.ensures) in
    subst (All IsPlain) (take_all c.loop-number.number c.args.image.now.relocations past) c.loop-number.invariant

-- The parts of a form, one behind another.
use Rattle.std.proofs.Common.{length, ap, arith}
use Rattle.std.specs.Option.{option_to_list}
use Rattle.amd64_encoder.specs.Writing.{selector_bytes}
use Rattle.amd64_encoder.proofs.Splices.{length-form, form_written}
use Rattle.amd64_encoder.proofs.writing.write.Goals as goal

pub put_number-requires : goal.put_number-requires
put_number-requires c =
    let one = ap (λ x. length (option_to_list x)) c.mark.ensures in
    let two = ap (λ x. length (option_to_list x)) c.rex.ensures in
    let three = ap (λ x. length (option_to_list x)) c.escape.ensures in
    let four = ap (λ x. length (selector_bytes x c.args.displacement)) c.selectors.ensures in
    omega (arith, length-form c.args.form c.args.displacement)

pub returns-clause-written : goal.returns-clause-written
returns-clause-written c =
    form_written c.args.form c.mark.result c.rex.result c.escape.result c.selectors.result c.args.displacement _ _ _ _ _ c.args.into.now _ _ _ _ _ _
    c.mark.ensures c.rex.ensures c.escape.ensures c.selectors.ensures
    c.put-at.ensures.written c.put-at.ensures.next c.put-at-2.ensures.written c.put-at-2.ensures.next c.put-at-3.ensures.written c.put-at-3.ensures.next
    c.put-at-4.ensures.written c.put-at-4.ensures.next c.put_selectors-at.ensures.written c.put_selectors-at.ensures.next c.put_number.ensures.written

pub returns-clause-next : goal.returns-clause-next
returns-clause-next c =
    let one = ap (λ x. length (option_to_list x)) c.mark.ensures in
    let two = ap (λ x. length (option_to_list x)) c.rex.ensures in
    let three = ap (λ x. length (option_to_list x)) c.escape.ensures in
    let four = ap (λ x. length (selector_bytes x c.args.displacement)) c.selectors.ensures in
    omega (arith, length-form c.args.form c.args.displacement)

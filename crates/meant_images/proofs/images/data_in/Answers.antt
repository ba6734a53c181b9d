use Rattle.std.proofs.Common.{◌∙◌, ap, length, map, sym, arith}
use Rattle.std.proofs.lemmas.Bool.{eqb-false, eqb-true}
use Rattle.job_meaning.specs.declared.values.Byte.TheVariants.{Value}
use Rattle.meant_images.proofs.DataRanges.{no_data, some_data}
use Rattle.meant_images.proofs.images.data_in.Goals as goal

pub returns-then-is_empty : goal.returns-then-is_empty
returns-then-is_empty c = λ l is keeps.
    no_data l c.args.bias keeps c.args.writable.now is
    (eqb-true (length c.args.writable.now.bytes) 0 (sym c.is_empty.ensures ∙ c.if-is_empty.true))

pub returns : goal.returns
returns c = λ l is keeps.
    let some = eqb-false (length c.args.writable.now.bytes) 0 (sym c.is_empty.ensures ∙ c.if-is_empty.false) in
    some_data l c.args.bias keeps c.args.writable.now c.place-start.result c.in_ok-bytes.bytes is
    (omega (arith, some)) c.place-start.ensures
    (c.in_ok-bytes.ensures ∙ ap (map Value) c.in_ok-values.ensures.values)

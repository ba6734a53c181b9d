use Rattle.std.proofs.Common.{sym, ◌∙◌}
use Rattle.job_text.proofs.NumberLemmas.{numeral_parsed, numeral_plus}
use Rattle.job_text.proofs.numbers.numeral.Goals as goal

pub returns-then-begins_with_plus : goal.returns-then-begins_with_plus
returns-then-begins_with_plus c =
    numeral_plus c.args.base c.args.digits.now c.requires.high
    (sym c.begins_with_plus.ensures ∙ c.if-begins_with_plus.true)

pub returns : goal.returns
returns c =
    c.ok.ensures.value
    ∙ numeral_parsed c.args.base c.args.digits.now c.from_str_radix.result
    (sym c.begins_with_plus.ensures ∙ c.if-begins_with_plus.false) c.from_str_radix.ensures.value

use Rattle.std.proofs.Common.{None, Some, cond, sym, ap, ◌∙◌}
use Rattle.std.proofs.lemmas.Bool.{false≢true}
use Rattle.command_line.proofs.CountLemmas.{count_not_read, count_read, no_count}
use Rattle.command_line.proofs.counts.count_of.Goals as goal

pub returns-then-not-begins_with_digit-clause-value : goal.returns-then-not-begins_with_digit-clause-value
returns-then-not-begins_with_digit-clause-value c =
    no_count c.args.word.now
    (λ begins. false≢true (sym c.if-not-begins_with_digit.true ∙ c.begins_with_digit.ensures.1 begins))

pub returns-in-Ok-clause-value : goal.returns-in-Ok-clause-value
returns-in-Ok-clause-value c =
    ap (λ t. cond t (Some c.in-Ok.count) None) (sym c.if-is_count.true ∙ c.is_count.ensures)
    ∙ count_read c.args.word.now c.from_str_radix.result c.in-Ok.count
    (c.begins_with_digit.ensures.0 c.if-not-begins_with_digit.false) c.from_str_radix.ensures.value c.in-Ok.is

pub returns-in_default-clause-value : goal.returns-in_default-clause-value
returns-in_default-clause-value c =
    ap (λ t. cond t (Some c.in-Ok.count) None) (sym c.if-is_count.false ∙ c.is_count.ensures)
    ∙ count_read c.args.word.now c.from_str_radix.result c.in-Ok.count
    (c.begins_with_digit.ensures.0 c.if-not-begins_with_digit.false) c.from_str_radix.ensures.value c.in-Ok.is

pub returns-in_default-2-clause-value : goal.returns-in_default-2-clause-value
returns-in_default-2-clause-value c =
    count_not_read c.args.word.now c.from_str_radix.result c.in_default.field-0
    (c.begins_with_digit.ensures.0 c.if-not-begins_with_digit.false) c.from_str_radix.ensures.value c.in_default.is

use Rattle.std.proofs.Common.{sym, ap, ◌∙◌}
use Rattle.amd64_subset.specs.Decoding.{decoded}
use Rattle.whole_meaning.specs.Reading.{hindrance}
use Rattle.whole_meaning.specs.Threads.{ops}
use Rattle.marked_memory.specs.Kept.{mark_in}
use Rattle.job_check.proofs.PlainSteps.{code_read, plain_ends, plain_goes}
use Rattle.job_check.proofs.plain.plain_step.Goals as goal

pub returns-then-reaches_linker : goal.returns-then-reaches_linker
returns-then-reaches_linker c =
    let k = c.args.space.now in
    let code = code_read k c.args.state.now.place c.fetch-count.result c.from.result c.fetch-count.new.into c.from.ensures c.fetch-count.ensures.bytes in
    plain_ends c.args.state.now k c.requires c.hindrance-hindrance.result c.decode-it.result
    (c.hindrance-hindrance.ensures ∙ ap (hindrance ops (mark_in k) c.args.state.now) code)
    (c.decode-it.ensures.exact ∙ ap decoded code)
    c.in_ok-stop_at_linker.field-0
    (sym c.reaches_linker.ensures ∙ c.if-reaches_linker.true) c.in_ok-stop_at_linker.ensures

pub returns : goal.returns
returns c =
    let k = c.args.space.now in
    let code = code_read k c.args.state.now.place c.fetch-count.result c.from.result c.fetch-count.new.into c.from.ensures c.fetch-count.ensures.bytes in
    plain_goes c.args.state.now c.do_read.new.state k c.do_read.new.space c.requires c.hindrance-hindrance.result c.decode-it.result
    (c.hindrance-hindrance.ensures ∙ ap (hindrance ops (mark_in k) c.args.state.now) code)
    (c.decode-it.ensures.exact ∙ ap decoded code)
    c.do_read.result c.as_step.result
    (sym c.reaches_linker.ensures ∙ c.if-reaches_linker.false) c.do_read.ensures c.as_step.ensures

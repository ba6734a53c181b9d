use Rattle.std.proofs.Common.{◌∙◌, sym, ap}
use Rattle.module_table.specs.Past.{module_of}
use Rattle.thread_blocks.specs.Instances.{loaded_instance}
use Rattle.thread_blocks.specs.MachineTurns.{call_start}
use Rattle.whole_meaning.specs.Loads.{loads_of}
use Rattle.whole_meaning.specs.Threads.{ops}
use Rattle.job_check.specs.Histories.{infos_of}
use Rattle.marked_memory.specs.Kept.{Kept}
use Rattle.job_check.proofs.LinesBegun.{call_begins, call_closed, call_unknown}
use Rattle.job_check.proofs.lines.call.Goals as goal

pub returns-in_default : goal.returns-in_default
returns-in_default c = λ number.
    let image = c.args.line.now.image in
    let p = c.args.table.now in
    call_closed (record {
      number = number;
      told = c.args.line.now;
    }) c.args.symbol.now c.args.given.a c.args.given.b c.args.given.c p c.args.space.now c.requires
    (ap (λ ls. loaded_instance (infos_of ls) image (module_of p image)) (sym c.images.ensures)
    ∙ sym c.in_default.ensures)

pub returns-in_default-function : goal.returns-in_default-function
returns-in_default-function c = λ number.
    let image = c.args.line.now.image in
    let p = c.args.table.now in
    call_unknown (record {
      number = number;
      told = c.args.line.now;
    }) c.args.symbol.now c.args.given.a c.args.given.b c.args.given.c p c.args.space.now c.requires
    c.in-Some.instance
    (ap (λ ls. loaded_instance (infos_of ls) image (module_of p image)) (sym c.images.ensures) ∙ sym c.in-Some.ensures)
    (ap (λ ls. (loads_of ls).function c.in-Some.instance c.args.symbol.now) (sym c.images-2.ensures)
    ∙ sym c.in_default-function.ensures)

pub returns : goal.returns
returns c = λ number.
    let image = c.args.line.now.image in
    let p = c.args.table.now in
    call_begins (record {
      number = number;
      told = c.args.line.now;
    }) c.args.symbol.now c.args.given.a c.args.given.b c.args.given.c p c.args.space.now c.requires
    c.in-Some.instance c.in-Some-function.place c.renew_stack.new.self c.registers_at.result
    (ap (λ ls. loaded_instance (infos_of ls) image (module_of p image)) (sym c.images.ensures) ∙ sym c.in-Some.ensures)
    (ap (λ ls. (loads_of ls).function c.in-Some.instance c.args.symbol.now) (sym c.images-2.ensures)
    ∙ sym c.in-Some-function.ensures)
    c.in_ok-renew_stack.ensures.renewed
    (c.registers_at.ensures
    ∙ ap (λ t. call_start ops t c.in-Some-function.place c.args.given.a c.args.given.b c.args.given.c)
    (c.thread.ensures.value ∙ ap (λ (k : Kept). k.thread) c.in_ok-renew_stack.ensures.renewed))

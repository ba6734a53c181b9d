use Rattle.std.proofs.Common.{◌∙◌, sym, ap}
use Rattle.module_table.specs.Modules.{is_loaded}
use Rattle.job_check.proofs.Histories.{left_more}
use Rattle.job_check.proofs.OpensBegun.{accepted, refused}
use Rattle.job_check.proofs.lines.open_or_close.Goals as goal

pub see-requires : goal.see-requires
see-requires c = rw c.accept.ensures
    (left_more c.args.space.now.images c.args.table.now _ c.requires.ready.past (sym c.if-not-is_accepted.ensures))

pub returns-then-not-is_accepted : goal.returns-then-not-is_accepted
returns-then-not-is_accepted c =
    refused (record {
      number = c.args.number;
      told = c.args.line.now;
    }) c.args.table.now c.args.space.now c.requires.ready.live
    c.thread.result c.args.opens c.requires.asks (sym c.if-not-is_accepted.ensures)

pub returns : goal.returns
returns c =
    accepted (record {
      number = c.args.number;
      told = c.args.line.now;
    }) c.is_loaded-was.result c.args.table.now c.accept.new.self
    c.args.space.now c.see.new.space c.load_new.new.space
    (rw c.new.ensures.items at c.in_ok-see.ensures) c.in_ok-load_new.ensures
    c.args.opens c.requires.asks (rw c.thread.ensures.value at (sym c.if-not-is_accepted.ensures))
    (c.is_loaded-was.ensures ∙ ap is_loaded c.module.ensures) (rw c.thread.ensures.value at c.accept.ensures)

use Rattle.std.proofs.Common.{sym, ◌∙◌}
use Rattle.job_check.proofs.SequencesMade.{sequence_goes, sequence_looks}
use Rattle.job_check.proofs.sequence.sequence_step.Goals as goal

pub returns-then-has_look : goal.returns-then-has_look
returns-then-has_look c = sequence_looks c.args.sequence.now c.args.state.now c.args.space.now c.look.result
    (sym (rw c.images.ensures at c.has_look.ensures) ∙ c.if-has_look.true) c.look.ensures

pub returns : goal.returns
returns c = sequence_goes c.args.sequence.now c.args.state.now c.do_sequence.new.state c.args.space.now c.do_sequence.new.space c.do_sequence.result c.as_step.result
    (sym (rw c.images.ensures at c.has_look.ensures) ∙ c.if-has_look.false) c.do_sequence.ensures c.as_step.ensures

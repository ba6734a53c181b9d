use Rattle.job_check.proofs.Acting.{instruction_made}
use Rattle.job_check.proofs.plain.do_instruction.Goals as goal

pub returns : goal.returns
returns c = instruction_made c.args.it.now c.args.state.now c.act-result.new.state c.args.space.now c.lend.new.self c.act-result.new.space c.lend-2.new.self c.address_at-number.result
    c.marked_frame.result c.lent_frame-frame.result c.act-result.result c.requires c.address_at-number.ensures c.marked_frame.ensures c.lent_frame-frame.ensures
    c.lend.ensures c.act-result.ensures.does c.act-result.ensures.rest c.lend-2.ensures

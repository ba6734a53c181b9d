-- The line is one of them.
use Rattle.job_changes.proofs.Lines.{from_pushed, pushed_more, pushed_no_fewer}
use Rattle.job_changes.proofs.job_lines.JobLines.push_copy.Goals as goal

pub returns-clause-from : goal.returns-clause-from
returns-clause-from c = from_pushed c.args.self.now c.push.new.self _ _ _ c.in_ok-line.ensures c.push.ensures

pub returns-clause-no_fewer : goal.returns-clause-no_fewer
returns-clause-no_fewer c = pushed_no_fewer c.args.self.now c.push.new.self _ _ c.push.ensures

pub returns-clause-more : goal.returns-clause-more
returns-clause-more c = pushed_more c.args.self.now c.push.new.self _ _ c.push.ensures

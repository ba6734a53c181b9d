-- At most one is gone.
use Rattle.job_changes.proofs.Lines.{change_dropped, dropped_fewer, dropped_from, dropped_no_more}
use Rattle.job_changes.proofs.job_lines.JobLines.drop_any.Goals as goal

pub returns : goal.returns
returns c =
    let old = c.args.self.now in
    let new = c.drop_line.new.self in
    change_dropped old new (dropped_from old new _ c.drop_line.ensures) (dropped_fewer old new _ c.drop_line.ensures)
    (dropped_no_more old new _ c.drop_line.ensures)

-- The view of the lines without one.
use Rattle.std.proofs.Common.{rules}
use Rattle.std.specs.Prelude.{string_bytes}
use Rattle.job_changes.proofs.Lines.{removed}
use Rattle.job_changes.proofs.job_lines.JobLines.drop_line.Goals as goal

pub returns-then-number-len : goal.returns-then-number-len
returns-then-number-len c =
    removed string_bytes c.self.inside.lines.items c.remove-dropped.new.self.items c.args.self.now c.self.view_is c.args.number
    (search rules) c.remove-dropped.ensures.items

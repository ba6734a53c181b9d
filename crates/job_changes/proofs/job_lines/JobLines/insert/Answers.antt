-- The view of the lines with one more.
use Rattle.std.proofs.Common.{rules}
use Rattle.std.specs.Prelude.{string_bytes}
use Rattle.job_changes.proofs.Lines.{inserted}
use Rattle.job_changes.proofs.job_lines.JobLines.insert.Goals as goal

pub returns-in_ok-insert : goal.returns-in_ok-insert
returns-in_ok-insert c =
    inserted string_bytes c.self.inside.lines.items c.insert.new.self.items c.args.self.now c.self.view_is c.args.number c.args.line
    (search rules) c.in_ok-insert.ensures.items

use Rattle.std.proofs.Common.{◌≡◌, map, take}
use Rattle.std.specs.Prelude.{string_bytes}
use Rattle.job_changes.specs.Lines.{joined}
use Rattle.job_changes.proofs.job_lines.text_of.Given as goal

-- the text of the lines so far
abbrev pub invariant-loop-line : goal.invariant-loop-line
invariant-loop-line l = string_bytes l.text ≡ joined (map string_bytes (take l.line-index l.lines))

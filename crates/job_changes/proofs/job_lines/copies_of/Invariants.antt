use Rattle.std.proofs.Common.{◌≡◌, map, take}
use Rattle.std.specs.Prelude.{string_bytes}
use Rattle.job_changes.proofs.job_lines.copies_of.Given as goal

-- a line of each part so far
abbrev pub invariant-loop-part : goal.invariant-loop-part
invariant-loop-part l = map string_bytes l.lines.items ≡ map (λ part. part.now) (take l.part-index l.parts)

-- Which line a thread is in.
use Rattle.std.specs.Prelude.{ℕ}
use Rattle.job_turns.specs.declared.asking.Ask.{Ask}
use Rattle.job_turns.specs.declared.asking.Ask.TheVariants.{Done, Look, Opens, Closes}

-- the line of its next turn, or 0 if its lines are over
abbrev pub line_of : Ask → ℕ
line_of Done = 0
line_of (Look line) = line
line_of (Opens line image) = line
line_of (Closes line image) = line

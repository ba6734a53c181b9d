use Rattle.std.proofs.Common.{◌≡◌, ◌≤◌, ◌<◌, ℕ, [], length, take}
use Rattle.std.specs.Prelude.{slice_index_or}
use Rattle.std.specs.List.{list_any}
use Rattle.job_changes.specs.Fuel.{IsLimited, has_fuel}
use Rattle.job_changes.proofs.job_lines.JobLines.limit_lines.Given as goal

-- the lines so far are limited, and the others are as they were
abbrev pub invariant-loop-number : goal.invariant-loop-number
invariant-loop-number l =
    (length l.self ≡ length l.initial.self)
    × ((k : ℕ) → k < l.number → IsLimited l.most (slice_index_or l.initial.self k []) (slice_index_or l.self k []))
    × ((k : ℕ) → l.number ≤ k → slice_index_or l.self k [] ≡ slice_index_or l.initial.self k [])
    × (l.is_said ≡ list_any has_fuel (take l.number l.initial.self))

use Rattle.std.proofs.Common.{◌≡◌, ◌+◌, ◌<◌, ◌≤◌, ℕ, get_or}
use Rattle.elf_records.proofs.strings.names_end.Given as goal

abbrev pub invariant-loop-end : goal.invariant-loop-end
invariant-loop-end l = (l.end ≤ l.size) × ((k : ℕ) → l.end ≤ k → k < l.size → get_or l.bytes (l.from + k) 0 ≡ 0 → ⊥)

abbrev pub decreases-loop-end : goal.decreases-loop-end
decreases-loop-end l = l.end

use Rattle.std.proofs.Common.{◌+◌, ◌≤◌, ℕ}
use Rattle.elf_object.specs.declared.relocation.Relocation.{Relocation}
use Rattle.sequence_match.specs.Sites.{Covers, IsEntry}
use Rattle.sequence_match.proofs.near.field_below.Given as goal

-- those that were looked at do not cover the place
abbrev pub invariant-loop-step : goal.invariant-loop-step
invariant-loop-step l = (f : ℕ) (y : Relocation) → l.end ≤ f + l.step → IsEntry l.relocations f y → Covers y l.place → ⊥

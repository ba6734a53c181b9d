use Rattle.std.proofs.Common.{◌+◌, ◌≤◌, ℕ}
use Rattle.elf_object.specs.declared.relocation.Relocation.{Relocation}
use Rattle.sequence_match.specs.Code.{CoversIn}
use Rattle.sequence_match.specs.Sites.{IsEntry}
use Rattle.sequence_match.proofs.near.is_bare_below.Given as goal

-- those that were looked at cover no such byte
abbrev pub invariant-loop-step : goal.invariant-loop-step
invariant-loop-step l = (f : ℕ) (y : Relocation) → l.end ≤ f + l.step → IsEntry l.relocations f y
    → CoversIn y l.from l.to → ⊥

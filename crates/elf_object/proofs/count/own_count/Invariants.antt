use Rattle.std.proofs.Common.{◌≡◌, ◌+◌, ◌-◌, ◌*◌, ◌≤◌, ◌^◌, length}
use Rattle.std.specs.Prelude.{sum_by}
use Rattle.std.specs.List.{range_with_len}
use Rattle.elf_object.specs.Lent.{relocations}
use Rattle.elf_object.specs.Object.{section_count}
use Rattle.elf_object.specs.Counts.{own_count}
use Rattle.elf_object.proofs.count.own_count.Given as goal

-- what is counted and what the sections that are left have is all
abbrev pub invariant-loop-section : goal.invariant-loop-section
invariant-loop-section l =
    (l.count + sum_by (λ t. length (relocations l.tables.bytes.now t))
    (range_with_len l.section (section_count l.tables.bytes.now - l.section)) ≡ own_count l.tables.bytes.now) ×
    (l.count ≤ 2 ^ 20 * l.section)

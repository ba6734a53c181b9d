use Rattle.std.proofs.Common.{◌≡◌, ◌+◌, ◌*◌, ◌<◌, ◌≤◌, ◌^◌, ℕ, List, drop, slice_index_or}
use Rattle.std.specs.Prelude.{sum_by}
use Rattle.elf_object.specs.Faults.{IsObject}
use Rattle.elf_object.specs.Counts.{own_count, relocation_count}
use Rattle.elf_object.proofs.count.relocation_count.Given as goal

-- what is counted and what the objects that are left have is all
abbrev pub invariant-loop-object : goal.invariant-loop-object
invariant-loop-object l =
    (l.count + sum_by own_count (drop l.object-index l.objects) ≡ relocation_count l.objects) ×
    (l.count ≤ 2 ^ 64 * l.object-index) ×
    ((k : ℕ) (d : List ℕ) → k < l.object-index → IsObject (slice_index_or l.objects k d))

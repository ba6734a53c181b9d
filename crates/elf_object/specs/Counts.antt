-- How many relocations objects have.
use Rattle.std.specs.Prelude.{◌-◌, ℕ, List, length, sum_by}
use Rattle.std.specs.List.{range_with_len}
use Rattle.elf_object.specs.Lent.{relocations}
use Rattle.elf_object.specs.Object.{section_count}

-- the number of relocations of those sections of an object that linking keeps; type NONE counts too
unfoldable pub own_count : List ℕ → ℕ
own_count b = sum_by (λ t. length (relocations b t)) (range_with_len 1 (section_count b - 1))

-- the number for all objects
abbrev pub relocation_count : List (List ℕ) → ℕ
relocation_count objects = sum_by own_count objects

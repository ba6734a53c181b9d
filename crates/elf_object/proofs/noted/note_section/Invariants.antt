use Rattle.std.proofs.Common.{◌≡◌, ◌++◌, ℕ, List}
use Rattle.elf_object.specs.Lent.{relocations}
use Rattle.elf_object.specs.Noted.{AreNoted}
use Rattle.elf_object.specs.declared.relocation.Relocation.{Relocation}
use Rattle.elf_object.proofs.noted.note_section.Given as goal

-- the relocations so far are noted behind those before
abbrev pub invariant-loop-relocation : goal.invariant-loop-relocation
invariant-loop-relocation l =
    (done : List Relocation) × (done ++ l.relocation-iterator ≡ relocations l.tables.bytes.now l.section)
    × ((symbols : ℕ) (seen : List Relocation) → AreNoted symbols seen l.fn.notes.roles.items l.fn.notes.traits
    → AreNoted symbols (seen ++ done) l.notes.roles.items l.notes.traits)

-- The sections of an object, and those that programs write.
use Rattle.std.specs.Prelude.{ℕ, List, Option, Some}
use Rattle.object_faults.specs.declared.class.SectionClass.{SectionClass}
use Rattle.object_faults.specs.declared.class.SectionClass.TheVariants.{Writable}
use Rattle.elf_object.specs.Parts.{header}
use Rattle.elf_object.specs.Lent.{section_class}

-- the number of sections, including number 0
abbrev pub section_count : List ℕ → ℕ
section_count b = (header b).e_shnum

-- the class of data that programs write
abbrev pub IsOfData : Option SectionClass → Type 0
IsOfData (Some (Writable _)) = Unit {0}
IsOfData _ = ⊥

-- section s is in that class; an empty section never is
abbrev pub IsWritable : List ℕ → ℕ → Type 0
IsWritable b s = IsOfData (section_class b s)

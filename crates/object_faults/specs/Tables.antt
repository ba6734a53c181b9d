-- What the reader keeps of an object's symbols and of a section of relocations.
use Rattle.std.specs.Prelude.{◌≡◌, ◌↔◌, ◌+◌, ◌*◌, ◌<◌, ◌≤◌, ℕ, List, Some, IsTrue, length, slice_index}
use Rattle.object_faults.specs.declared.class.SectionClass.TheVariants.{Executable}
use Rattle.object_faults.specs.declared.symbols.Symbols.{Symbols}
use Rattle.object_faults.specs.declared.reloc_tests.RelocTable.{RelocTable}
use Rattle.object_faults.specs.Parts.{header, section, symbol_table, symbol_count, entry_count, rela, relocates}
use Rattle.object_faults.specs.Parts.{relocation_table, IsStrings, IsRela}
use Rattle.object_faults.specs.Classes.{kept_class, IsKeptSection}
use Rattle.object_faults.specs.Names.{IsEndOfNames}
use Rattle.object_faults.specs.Relocations.{IsReloc, width_at}
use Rattle.object_faults.specs.Firsts.{first_below}

-- where the symbol table lies, and where its names end
pub record AreSymbols (b : List ℕ) (symbols : Symbols) : Type 0 where
  pub table_is : symbols.table ≡ symbol_table b
  pub table_in : symbols.table < (header b).e_shnum
  pub at_is : 0 < symbols.table → symbols.at ≡ (section b symbols.table).offset
  pub count_is : symbols.count ≡ symbol_count b
  pub inside : symbols.at + 24 * symbols.count ≤ length b
  pub names_end_is : 0 < symbols.table → IsStrings b (section b symbols.table).link
      → IsEndOfNames b (section b symbols.table).link symbols.names_end

-- where the relocations of section r lie, and what the checks need of their target
pub record AreRelocs (b : List ℕ) (r : ℕ) (relocs : RelocTable) : Type 0 where
  pub of_kept : IsRela b r × IsKeptSection b (section b r).info
  pub at_is : relocs.at ≡ (section b r).offset
  pub count_is : relocs.count ≡ entry_count (section b r)
  pub inside : relocs.at + 24 * relocs.count ≤ length b
  pub size_is : relocs.target_size ≡ (section b (section b r).info).size
  pub code_is : IsTrue relocs.is_code ↔ (kept_class (section b (section b r).info) ≡ Some Executable)

-- at each number t of a section, the section that holds the relocations of t, as far as the sections below n go
abbrev pub AreTargetsBelow : List ℕ → ℕ → List ℕ → Type 0
AreTargetsBelow b n found = (t : ℕ) → t < (header b).e_shnum → slice_index found t ≡ first_below (relocates b t) n

-- so for all sections
abbrev pub AreTargets : List ℕ → List ℕ → Type 0
AreTargets b found = (t : ℕ) → t < (header b).e_shnum → slice_index found t ≡ relocation_table b t

-- the fields of the relocations in section r lie in the first n bytes of their target
abbrev pub HasRoom : List ℕ → ℕ → ℕ → Type 0
HasRoom b r n = (e : ℕ) → IsReloc b r e → (rela b r e).offset + width_at b r e ≤ n

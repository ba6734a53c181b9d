-- The file header of a relocatable object (gABI, "ELF Header").
use Rattle.std.specs.Prelude.{ℕ, ◌-◌, [], ◌∷◌, ◌++◌, codes}
use Rattle.elf_records.specs.declared.file_header.Header.{Header}

-- 64 bits, little-endian, relocatable, for x86-64; its section headers follow it, number 0 among them, and the last has
-- their names
abbrev pub object_header : ℕ → Header
object_header sections = record {
  ident = 0x7f ∷ codes "ELF" ++ (2 ∷ 1 ∷ 1 ∷ 0 ∷ 0 ∷ 0 ∷ 0 ∷ 0 ∷ 0 ∷ 0 ∷ 0 ∷ 0 ∷ []);
  e_type = 1;
  e_machine = 62;
  e_version = 1;
  e_entry = 0;
  e_phoff = 0;
  e_shoff = 64;
  e_flags = 0;
  e_ehsize = 64;
  e_phentsize = 0;
  e_phnum = 0;
  e_shentsize = 64;
  e_shnum = sections;
  e_shstrndx = sections - 1;
}

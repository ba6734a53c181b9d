-- The parts of an object that code lends.
use Rattle.std.specs.Prelude.{◌≡◌, ℕ, List, []}
use Rattle.std.specs.Prelude.{if◌then◌else◌}
use Rattle.elf_records.specs.Strings.{text_at}
use Rattle.elf_object.specs.declared.part.SectionPart.{SectionPart}
use Rattle.elf_object.specs.declared.part.SymbolPart.{SymbolPart}
use Rattle.elf_object.specs.Parts.{header, section, is_section}
use Rattle.elf_object.specs.Lent.{section_bytes, section_class, section_size, section_alignment, symbol_binding}
use Rattle.elf_object.specs.Lent.{symbol_type, symbol_visibility, symbol_place, symbol_value, symbol_size}

-- the name of section s
unfoldable pub section_name : List ℕ → ℕ → List ℕ
section_name b s = if is_section b s then text_at (section_bytes b (header b).e_shstrndx) (section b s).name else []

-- section s, as it is lent
pub record IsSectionPart (b : List ℕ) (s : ℕ) (part : SectionPart) : Type 0 where
  pub class_is : part.class ≡ section_class b s
  pub bytes_are : part.bytes.now ≡ section_bytes b s
  pub size_is : part.size ≡ section_size b s
  pub alignment_is : part.alignment ≡ section_alignment b s

-- symbol e, as it is lent
pub record IsSymbolPart (b : List ℕ) (e : ℕ) (part : SymbolPart) : Type 0 where
  pub binding_is : part.binding ≡ symbol_binding b e
  pub kind_is : part.kind ≡ symbol_type b e
  pub visibility_is : part.visibility ≡ symbol_visibility b e
  pub place_is : part.place ≡ symbol_place b e
  pub value_is : part.value ≡ symbol_value b e
  pub size_is : part.size ≡ symbol_size b e

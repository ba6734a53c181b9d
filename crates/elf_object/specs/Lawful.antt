-- What callers may rely on in the parts that an object lends.
use Rattle.std.specs.Prelude.{◌≡◌, ◌≢◌, ◌+◌, ◌<◌, ◌≤◌, ◌^◌, ℕ, Bool, true, List, length, Some, IsSome, if◌then◌else◌}
use Rattle.elf_records.specs.Alignments.{IsAlignment}
use Rattle.object_faults.specs.declared.class.SectionClass.{SectionClass}
use Rattle.object_faults.specs.declared.class.SectionClass.TheVariants.{Executable, Tls, Writable}
use Rattle.elf_records.specs.declared.symbol.SymbolType.TheVariants.{Func, File, Tls as ThreadLocal}
use Rattle.elf_object.specs.declared.symbol.SymbolPlace.TheVariants.{Absolute, InSection}
use Rattle.elf_records.specs.declared.relocation.RelocationKind.TheVariants.{Nothing}
use Rattle.elf_object.specs.declared.relocation.Relocation.{Relocation}
use Rattle.elf_object.specs.Parts.{symbol_count, IsSection}
use Rattle.elf_object.specs.Classes.{IsTls}
use Rattle.elf_object.specs.Lent.{section_class, section_size, section_alignment, section_bytes, symbol_type}
use Rattle.elf_object.specs.Lent.{symbol_place, symbol_value, symbol_size}
use Rattle.elf_object.specs.Relocations.{field_width, IsOfCode}

-- whether a section of this class has bytes in the file
abbrev pub has_initial : SectionClass → Bool
has_initial (Tls initial) = initial
has_initial (Writable initial) = initial
has_initial _ = true

-- section s, which linking keeps in this class, is small, and its bytes are all in the file
pub record IsKeptAs (b : List ℕ) (s : ℕ) (class : SectionClass) : Type 0 where
  pub small : section_size b s ≤ 2 ^ 20
  pub aligned : IsAlignment (section_alignment b s)
  pub filled : length (section_bytes b s) ≡ (if has_initial class then section_size b s else 0)

-- symbol e is defined in a section of the object and, if linking keeps that section, is inside it; thread-local storage
-- has no functions
pub record IsPlaced (b : List ℕ) (e : ℕ) : Type 0 where
  pub section : (s : ℕ) → symbol_place b e ≡ InSection s → IsSection b s
  pub inside : (s : ℕ) → symbol_place b e ≡ InSection s → IsSome (section_class b s)
      → symbol_value b e + symbol_size b e ≤ section_size b s
  pub no_code : (s : ℕ) → symbol_place b e ≡ InSection s → IsTls (section_class b s)
      → (symbol_type b e ≢ Func) × (symbol_type b e ≢ File)
  pub thread_local : (s : ℕ) → symbol_type b e ≡ ThreadLocal → symbol_place b e ≡ InSection s
      → IsTls (section_class b s)

-- symbol e, which is not LOCAL, is undefined or in a section that linking keeps
pub record IsShared (b : List ℕ) (e : ℕ) : Type 0 where
  pub relative : symbol_place b e ≢ Absolute
  pub kept : (s : ℕ) → symbol_place b e ≡ InSection s → IsSome (section_class b s)

-- the field of a relocation of section t is in t, its type may be used there, and its symbol has a place
pub record IsLawful (b : List ℕ) (t : ℕ) (relocation : Relocation) : Type 0 where
  pub inside : relocation.offset + field_width relocation.kind ≤ section_size b t
  pub code : IsOfCode relocation.kind → section_class b t ≡ Some Executable
  pub symbol : relocation.kind ≢ Nothing → (0 < relocation.symbol) × (relocation.symbol < symbol_count b)
  pub relative : relocation.kind ≢ Nothing → symbol_place b relocation.symbol ≢ Absolute
  pub kept : relocation.kind ≢ Nothing → (s : ℕ) → symbol_place b relocation.symbol ≡ InSection s
      → IsSome (section_class b s)

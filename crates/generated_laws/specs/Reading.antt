-- What an object's bytes say, if they are those of a shape: its sections, symbols and relocations.
use Rattle.std.specs.Prelude.{◌≡◌, ◌≢◌, ◌<◌, ℕ, Bool, true, false, List, [], ◌∷◌, codes, length, map}
use Rattle.std.specs.Prelude.{Some, None, slice_index_or, if◌then◌else◌, unwrap_or}
use Rattle.std.specs.List.{All}
use Rattle.elf_records.specs.Records.{rela_symbol, rela_kind}
use Rattle.elf_records.specs.FittingRecords.{FitsRela}
use Rattle.elf_records.specs.declared.relocation.Rela.{Rela}
use Rattle.elf_records.specs.declared.relocation.RelocationKind.TheVariants.{Nothing}
use Rattle.elf_object.specs.Lent.{section_bytes, section_class, section_size, section_alignment, relocations}
use Rattle.elf_object.specs.Lent.{kept_relocation_table, relocation_target}
use Rattle.elf_object.specs.Lent.{symbol_name, symbol_binding, symbol_type, symbol_visibility, symbol_place}
use Rattle.elf_object.specs.Lent.{symbol_value, symbol_size}
use Rattle.elf_object.specs.Object.{section_count}
use Rattle.elf_object.specs.Parts.{symbol_count}
use Rattle.elf_object.specs.Relocations.{relocation_kind}
use Rattle.elf_object.specs.declared.relocation.Relocation.{Relocation}
use Rattle.elf_records.specs.declared.symbol.SymbolBinding.{SymbolBinding}
use Rattle.elf_records.specs.declared.symbol.SymbolBinding.TheVariants.{Local, Global}
use Rattle.elf_records.specs.declared.symbol.SymbolType.{SymbolType}
use Rattle.elf_records.specs.declared.symbol.SymbolType.TheVariants.{NoType, Func, Tls as TlsType}
use Rattle.elf_object.specs.declared.symbol.SymbolPlace.{SymbolPlace}
use Rattle.elf_object.specs.declared.symbol.SymbolPlace.TheVariants.{Undefined, InSection}
use Rattle.elf_records.specs.declared.symbol.Visibility.TheVariants.{Default}
use Rattle.object_faults.specs.declared.class.SectionClass.TheVariants.{Executable, Tls}
use Rattle.generated_job.specs.Shapes.{Shape, object_bytes, zeros_alignment}

-- ** shapes that a file can hold

abbrev pub IsByte : ℕ → Type 0
IsByte b = b < 256

-- a name: some bytes, none of them zero
pub record IsNameText (name : List ℕ) : Type 0 where
  pub some : 0 < length name
  pub few : length name < 256
  pub bytes : All (λ b. (b ≢ 0) × (b < 256)) name

-- small enough for its numbers to fit their fields
pub record IsSmall (s : Shape) : Type 0 where
  pub function_name : IsNameText s.function
  pub variable_name : IsNameText s.variable
  pub few_code : length s.code < 256
  pub code_bytes : All IsByte s.code
  pub few_relocations : length s.relocations < 256
  pub relocations_fit : All FitsRela s.relocations
  pub few_initial : length s.initial < 256
  pub initial_bytes : All IsByte s.initial
  pub few_zeros : s.zeros < 256

-- ** what is read

-- what is known of each symbol: its name, binding, type, place and size; its value is 0
pub record Known : Type 0 where
  pub name : List ℕ
  pub binding : SymbolBinding
  pub kind : SymbolType
  pub place : SymbolPlace
  pub size : ℕ

abbrev pub reserved : Known
reserved = record { name = []; binding = Local; kind = NoType; place = Undefined; size = 0 }

abbrev pub known_getter : Bool → List Known
known_getter calls =
    if calls
    then record { name = codes "__tls_get_addr"; binding = Global; kind = NoType; place = Undefined; size = 0 } ∷ []
    else []

unfoldable pub known_of : Shape → List Known
known_of s =
    reserved
    ∷ record { name = s.function; binding = Global; kind = Func; place = InSection 1; size = length s.code }
    ∷ record { name = s.variable; binding = Global; kind = TlsType; place = InSection 3; size = length s.initial }
    ∷ known_getter s.calls

abbrev pub known_at : Shape → ℕ → Known
known_at s e = slice_index_or (known_of s) e reserved

-- a relocation, by its entry in the file
abbrev pub relocation_of : Rela → Relocation
relocation_of r = record {
  offset = r.offset;
  kind = unwrap_or (relocation_kind (rela_kind r)) Nothing;
  symbol = rela_symbol r;
  addend = r.addend;
}

-- the bytes read as the shape
pub record ReadsAs (b : List ℕ) (s : Shape) : Type 0 where
  pub sections : section_count b ≡ 8
  pub code_class : section_class b 1 ≡ Some Executable
  pub initial_class : section_class b 3 ≡ Some (Tls true)
  pub zeros_class : section_class b 4 ≡ Some (Tls false)
  pub other_class : (k : ℕ) → k ≢ 1 → k ≢ 3 → k ≢ 4 → section_class b k ≡ None
  pub code_size : section_size b 1 ≡ length s.code
  pub initial_size : section_size b 3 ≡ length s.initial
  pub zeros_size : section_size b 4 ≡ s.zeros
  pub code_alignment : section_alignment b 1 ≡ 16
  pub initial_alignment : section_alignment b 3 ≡ 4
  pub zeros_alignment_is : section_alignment b 4 ≡ zeros_alignment s.zeros
  pub code_is : section_bytes b 1 ≡ s.code
  pub initial_is : section_bytes b 3 ≡ s.initial
  pub zeros_are : section_bytes b 4 ≡ []
  pub count : symbol_count b ≡ length (known_of s)
  pub names : (e : ℕ) → e < length (known_of s) → symbol_name b e ≡ (known_at s e).name
  pub bindings : (e : ℕ) → e < length (known_of s) → symbol_binding b e ≡ (known_at s e).binding
  pub kinds : (e : ℕ) → e < length (known_of s) → symbol_type b e ≡ (known_at s e).kind
  pub shown : (e : ℕ) → e < length (known_of s) → symbol_visibility b e ≡ Default
  pub placed : (e : ℕ) → e < length (known_of s) → symbol_place b e ≡ (known_at s e).place
  pub values : (e : ℕ) → e < length (known_of s) → symbol_value b e ≡ 0
  pub sizes : (e : ℕ) → e < length (known_of s) → symbol_size b e ≡ (known_at s e).size
  pub table : kept_relocation_table b 1 ≡ 2
  pub other_table : (k : ℕ) → k ≢ 1 → kept_relocation_table b k ≡ 0
  pub target : relocation_target b 2 ≡ 1
  pub other_target : (k : ℕ) → k ≢ 2 → relocation_target b k ≡ 0
  pub relocations_are : relocations b 1 ≡ map relocation_of s.relocations
  pub no_other : (k : ℕ) → k ≢ 1 → relocations b k ≡ []

-- each small shape's object
abbrev pub ShapesAreRead : Type 0
ShapesAreRead = (s : Shape) → IsSmall s → ReadsAs (object_bytes s) s

-- What the bytes of a file spell: the image that they stand for (gABI, "Program Header", "Symbol Table",
-- "Relocation").
use Rattle.std.specs.Prelude.{◌+◌, ◌==◌, ℕ, Bool, true, false, not, List, slice_range, Option, Some, None, unwrap_or}
use Rattle.std.specs.Prelude.{if◌then◌else◌}
use Rattle.std.specs.Option.{option_map}
use denote.Bor.{Bor}
use Rattle.elf_records.specs.declared.symbol.SymbolEntry.{SymbolEntry}
use Rattle.elf_records.specs.declared.program_header.Segment.{Segment}
use Rattle.elf_records.specs.declared.relocation.Rela.{Rela}
unfoldable pub use Rattle.elf_records.specs.Strings.{text_at}
use Rattle.elf_records.specs.Records.{rela_symbol, rela_kind, symbol_binding, symbol_kind, symbol_visibility}
use Rattle.elf_records.specs.declared.program_header.TheConstants.{PF_X, PF_R}
use Rattle.elf_records.specs.declared.symbol.TheConstants.{SHN_UNDEF}
use Rattle.elf_records.specs.Symbols.{binding_numbered, type_numbered, visibility_numbered}
use Rattle.image_rules.specs.declared.places.FileKind.{FileKind}
use Rattle.image_faults.specs.declared.loader_kind.LoaderKind.TheVariants.{Relative}
use Rattle.image_faults.specs.Parts.{segment, loads, tls}
use Rattle.image_faults.specs.Array.{array_size, symbol_count, relocation_count, strings_place, strings_size}
use Rattle.image_faults.specs.Symbols.{symbol}
use Rattle.image_faults.specs.Relocations.{rela, loader_kind}
use Rattle.image_faults.specs.Places.{file_kind, got, is_flagged}
use Rattle.image_file.specs.declared.part.PartClass.{PartClass}
use Rattle.image_file.specs.declared.part.PartClass.TheVariants.{Executable, ReadOnly, Writable}
use Rattle.image_file.specs.declared.part.ImagePart.{ImagePart}
use Rattle.image_file.specs.declared.part.TlsPart.{TlsPart}
use Rattle.image_file.specs.declared.symbol.ImageSymbol.{ImageSymbol}
use Rattle.image_file.specs.declared.relocation.ImageRelocation.{ImageRelocation}
use Rattle.image_file.specs.Tabled.{tabled}

-- a part that is loaded: its class, its address and its bytes
pub record Part : Type 0 where
  pub class : PartClass
  pub address : ℕ
  pub bytes : List ℕ

-- an image, as a loader sees it; its last part holds the dynamic tables, and begins with the dynamic array
pub record Spelled : Type 0 where
  pub kind : FileKind
  pub parts : List Part
  pub array_size : ℕ
  pub got : Option ℕ
  pub tls : Option TlsPart
  pub symbols : List ImageSymbol
  pub names : List (List ℕ)
  pub relocations : List ImageRelocation
  pub is_flagged : Bool

-- what the flags of a LOAD allow
abbrev pub class_numbered : ℕ → PartClass
class_numbered n = if n == PF_X then Executable else if n == PF_R then ReadOnly else Writable

-- LOAD i
unfoldable pub part : List ℕ → ℕ → Part
part b i = record {
  class = class_numbered (segment b i).flags;
  address = (segment b i).vaddr;
  bytes = slice_range b (segment b i).offset ((segment b i).offset + (segment b i).filesz);
}

abbrev pub is_writable : PartClass → Bool
is_writable Writable = true
is_writable class = false

-- a part that is borrowed, without the borrow
abbrev pub lent_part : ImagePart → Part
lent_part lent = record { class = lent.class; address = lent.address; bytes = lent.bytes.now }

abbrev pub part_seen : Option ImagePart → Option Part
part_seen None = None
part_seen (Some lent) = Some (lent_part lent)

-- the TLS segment, by its header
abbrev pub tls_part : Segment → TlsPart
tls_part s = record { address = s.vaddr; initial = s.filesz; size = s.memsz; alignment = s.align }

-- the symbol of an entry, without its name
unfoldable pub symbol_of : SymbolEntry → ImageSymbol
symbol_of s = record {
  binding = binding_numbered (symbol_binding s);
  kind = type_numbered (symbol_kind s);
  visibility = visibility_numbered (symbol_visibility s);
  is_defined = not (s.shndx == SHN_UNDEF);
  value = s.value;
  size = s.size;
}

-- the bytes of the names, and among them the text at which a symbol has its name
abbrev pub strings : List ℕ → List ℕ
strings b = slice_range b (strings_place b) (strings_place b + strings_size b)

abbrev pub name : List ℕ → ℕ → List ℕ
name b k = text_at (strings b) (symbol b k).name

-- what is lent of a name, without the loan
abbrev pub text_seen : Option (Bor (List ℕ)) → Option (List ℕ)
text_seen None = None
text_seen (Some lent) = Some lent.now

-- the relocation of an entry; an image has only types of relocation that a loader knows
unfoldable pub relocation_of : Rela → ImageRelocation
relocation_of r = record {
  place = r.offset;
  kind = unwrap_or (loader_kind (rela_kind r)) Relative;
  symbol = rela_symbol r;
  addend = r.addend;
}

-- the image that the bytes spell; names are a list of their own, since each is found only when asked for
abbrev pub spelled : List ℕ → Spelled
spelled b = record {
  kind = file_kind b;
  parts = tabled (part b) (loads b);
  array_size = array_size b;
  got = got b;
  tls = option_map tls_part (tls b);
  symbols = tabled (λ k. symbol_of (symbol b k)) (symbol_count b);
  names = tabled (name b) (symbol_count b);
  relocations = tabled (λ k. relocation_of (rela b k)) (relocation_count b);
  is_flagged = is_flagged b;
}

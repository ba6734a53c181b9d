-- What a linker knows of an image before its dynamic tables are laid, and the image that it becomes.
use Rattle.std.specs.Prelude.{◌+◌, ℕ, Bool, false, List, [], ◌∷◌, Option, length, map, slice_index_or}
use Rattle.std.specs.Int.{next_multiple_of}
use Rattle.image_rules.specs.declared.places.FileKind.{FileKind}
use Rattle.image_file.specs.declared.part.TlsPart.{TlsPart}
use Rattle.image_file.specs.declared.symbol.ImageSymbol.{ImageSymbol}
use Rattle.elf_records.specs.declared.symbol.SymbolBinding.{SymbolBinding}
use Rattle.elf_records.specs.declared.symbol.SymbolBinding.TheVariants.{Local}
use Rattle.elf_records.specs.declared.symbol.SymbolType.{SymbolType}
use Rattle.elf_records.specs.declared.symbol.SymbolType.TheVariants.{NoType}
use Rattle.elf_records.specs.declared.symbol.Visibility.TheVariants.{Default}
use Rattle.image_file.specs.declared.relocation.ImageRelocation.{ImageRelocation}
use Rattle.image_file.specs.Spelled.{Part}
use Rattle.elf_records.specs.Fields.{part_at}
use Rattle.image_writer.specs.declared.outline.PartPlace.{PartPlace}
use Rattle.image_writer.specs.declared.draft.NamedSymbol.{NamedSymbol}
use Rattle.image_writer.specs.declared.draft.Draft.{Draft}
use Rattle.image_writer.specs.Page.{base_of, file_offset}

-- the parts without the dynamic tables, the symbols from number 1 on with their names, and the relocations
pub record Contents : Type 0 where
  pub kind : FileKind
  pub parts : List Part
  pub got : Option ℕ
  pub tls : Option TlsPart
  pub symbols : List ImageSymbol
  pub names : List (List ℕ)
  pub relocations : List ImageRelocation
  pub is_flagged : Bool

-- where the last of these parts ends; the base if there is none
abbrev pub parts_end : FileKind → List Part → ℕ
parts_end kind [] = base_of kind
parts_end kind (p ∷ []) = p.address + length p.bytes
parts_end kind (p ∷ (q ∷ more)) = parts_end kind (q ∷ more)

-- the dynamic tables begin at the next page
abbrev pub tables_address : Contents → ℕ
tables_address c = next_multiple_of (parts_end c.kind c.parts) 4096

-- a symbol that the image doesn't define
abbrev pub undefined_symbol : SymbolBinding → SymbolType → ImageSymbol
undefined_symbol binding kind = record {
  binding = binding;
  kind = kind;
  visibility = Default;
  is_defined = false;
  value = 0;
  size = 0;
}

-- the reserved symbol, number 0
abbrev pub null_symbol : ImageSymbol
null_symbol = undefined_symbol Local NoType

abbrev pub all_symbols : Contents → List ImageSymbol
all_symbols c = null_symbol ∷ c.symbols

abbrev pub all_names : Contents → List (List ℕ)
all_names c = [] ∷ c.names

-- symbol k, and its name
abbrev pub symbol : Contents → ℕ → ImageSymbol
symbol c k = slice_index_or (all_symbols c) k null_symbol

abbrev pub name : Contents → ℕ → List ℕ
name c k = slice_index_or (all_names c) k []

-- a part whose bytes stand at its offset in a file
abbrev pub part_in : FileKind → List ℕ → PartPlace → Part
part_in kind file p = record {
  class = p.class;
  address = p.address;
  bytes = part_at p.size (file_offset kind p.address) file;
}

-- the contents that a draft and the bytes of its parts make
abbrev pub contents_of : Draft → List ℕ → Contents
contents_of d file = record {
  kind = d.kind;
  parts = map (part_in d.kind file) d.parts.now;
  got = d.got;
  tls = d.tls;
  symbols = map (λ (s : NamedSymbol). s.symbol) d.symbols.now;
  names = map (λ (s : NamedSymbol). s.name.now) d.symbols.now;
  relocations = d.relocations.now;
  is_flagged = d.is_flagged;
}

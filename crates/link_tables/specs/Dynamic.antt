-- The symbols and the relocations by which a loader connects an image with others (gABI, "Symbol Table", "Relocation";
-- psABI, "Relocation Types").
use Rattle.std.specs.Prelude.{◌+◌, ◌^◌, ◌&&◌, ◌++◌, ℕ, ℤ, pos, ◌+ℤ◌, Bool, true, List, [], ◌∷◌, length}
use Rattle.std.specs.Prelude.{Option, Some, None, map, unwrap_or, if◌then◌else◌}
use Rattle.std.specs.Int.{w64, cast_signed}
use Rattle.std.specs.List.{flat_map, list_any, position_from, range_with_len}
use Rattle.std.specs.Str.{bytes_eq}
pub use Rattle.elf_records.specs.RelocationRows.{is_absolute}
use Rattle.elf_object.specs.declared.relocation.Relocation.{Relocation}
use Rattle.elf_records.specs.declared.symbol.SymbolBinding.TheVariants.{Global}
use Rattle.elf_records.specs.declared.symbol.SymbolType.{SymbolType}
use Rattle.elf_records.specs.declared.symbol.SymbolType.TheVariants.{NoType, Tls}
use Rattle.elf_object.specs.Lent.{relocations, symbol_binding, symbol_size, symbol_type, symbol_visibility}
use Rattle.elf_object.specs.Object.{section_count}
use Rattle.dynamic_symbols.specs.Names.{defined_symbols, imports as imports_of, name_of}
use Rattle.got_pairs.specs.declared.entry.DynamicKind.{DynamicKind}
use Rattle.got_pairs.specs.declared.entry.DynamicKind.TheVariants as dynamic
use Rattle.got_pairs.specs.declared.entry.DynamicRelocation.{DynamicRelocation}
use Rattle.got_pairs.specs.declared.entry.DynamicSymbol.{DynamicSymbol}
use Rattle.got_pairs.specs.declared.entry.DynamicSymbol.TheVariants.{Image, Imported, Runtime}
use Rattle.got_pairs.specs.declared.entry.Entry.{Entry}
use Rattle.got_pairs.specs.declared.entry.Entry.TheVariants.{One, Two}
use Rattle.got_pairs.specs.declared.need.Need.{Need}
use Rattle.got_pairs.specs.Entries.{entry_of}
use Rattle.got_pairs.specs.Needs.{starts_from}
use Rattle.image_faults.specs.declared.loader_kind.LoaderKind.{LoaderKind}
use Rattle.image_faults.specs.declared.loader_kind.LoaderKind.TheVariants as loader
use Rattle.image_file.specs.declared.relocation.ImageRelocation.{ImageRelocation}
use Rattle.image_file.specs.declared.symbol.ImageSymbol.{ImageSymbol}
use Rattle.image_writer.specs.Contents.{undefined_symbol}
use Rattle.link_faults.specs.ImageKinds.{is_moved, is_module}
use Rattle.sequence_forms.specs.declared.places.Site.{Site}
use Rattle.sequence_forms.specs.Forms.{is_initial}
use Rattle.tls_relocs.specs.Values.{modulo}
use Rattle.link_faults.specs.declared.symbol_ref.SymbolRef.{SymbolRef}
use Rattle.tls_symbols.specs.Bindings.{is_tls_symbol}
use Rattle.tls_symbols.specs.Definitions.{flat_map_from}
use Rattle.elf_records.specs.Symbols.{get_address}
use Rattle.link_needs.specs.declared.needs.AbsoluteField.{AbsoluteField}
use Rattle.link_needs.specs.Linking.{Linking, address, binding, block_offset, object, offset, place}
use Rattle.link_needs.specs.Needs.{entries, got_start, sorted_by, uses_runtime}
use Rattle.link_needs.specs.Values.{own_number}

-- ** symbols

-- a symbol that the image defines; the value of a thread-local one is its offset in the TLS segment, and its type is
-- TLS, whatever its object says
unfoldable pub defined : Linking → SymbolRef → ImageSymbol
defined l found =
    let b = object l found.object in
    record {
      binding = symbol_binding b found.symbol;
      kind = (if is_tls_symbol b found.symbol then Tls else symbol_type b found.symbol);
      visibility = symbol_visibility b found.symbol;
      is_defined = true;
      value = (if is_tls_symbol b found.symbol then offset l found else address l found);
      size = symbol_size b found.symbol;
    }

-- a symbol of another image
abbrev pub foreign : SymbolType → ImageSymbol
foreign kind = undefined_symbol Global kind

abbrev pub own_symbols : Linking → List SymbolRef
own_symbols l = defined_symbols l.objects

abbrev pub imports : Linking → List (List ℕ)
imports l = imports_of l.objects l.startup l.sites

-- the function of the run time, if it is called through its word
abbrev pub runtime_symbols : Bool → List ImageSymbol
runtime_symbols uses = if uses then foreign NoType ∷ [] else []

abbrev pub runtime_names : Bool → List (List ℕ)
runtime_names uses = if uses then get_address ∷ [] else []

-- the symbols from number 1 on, and their names: those of the image, the imports, the function of the run time
unfoldable pub symbols : Linking → List ImageSymbol
symbols l =
    map (defined l) (own_symbols l)
    ++ (map (λ (name : List ℕ). foreign Tls) (imports l) ++ runtime_symbols (uses_runtime l))

unfoldable pub names : Linking → List (List ℕ)
names l = map (name_of l.objects) (own_symbols l) ++ (imports l ++ runtime_names (uses_runtime l))

-- the number of the symbol that a GOT word names
abbrev pub number_of : Linking → DynamicSymbol → ℕ
number_of l Image = 0
number_of l (Imported name) =
    1 + (length (own_symbols l) + unwrap_or (position_from (bytes_eq name) 0 (imports l)) 0)
number_of l Runtime = 1 + (length (own_symbols l) + length (imports l))

-- ** relocations of the table

abbrev pub loader_kind : DynamicKind → LoaderKind
loader_kind dynamic.JumpSlot = loader.JumpSlot
loader_kind dynamic.Relative = loader.Relative
loader_kind dynamic.DtpMod64 = loader.Module
loader_kind dynamic.DtpOff64 = loader.ModuleOffset
loader_kind dynamic.TpOff64 = loader.ThreadOffset
loader_kind dynamic.TlsDesc = loader.Descriptor

abbrev pub relocation_of : Linking → ℕ → DynamicRelocation → ImageRelocation
relocation_of l place d = record {
  place = place;
  kind = loader_kind d.kind;
  symbol = number_of l d.symbol;
  addend = cast_signed w64 d.addend;
}

-- the relocation of a GOT word at an address
abbrev pub word_relocations : Linking → ℕ → Option DynamicRelocation → List ImageRelocation
word_relocations l place None = []
word_relocations l place (Some d) = relocation_of l place d ∷ []

abbrev pub entry_relocations : Linking → ℕ → Entry → List ImageRelocation
entry_relocations l place (One v) = word_relocations l place v.relocation
entry_relocations l place (Two v w) =
    word_relocations l place v.relocation ++ word_relocations l (place + 8) w.relocation

abbrev pub need_relocations : Linking → Need × ℕ → List ImageRelocation
need_relocations l entry = entry_relocations l entry.1 (entry_of l.kind (block_offset l) entry.0)

unfoldable pub got_relocations : Linking → List ImageRelocation
got_relocations l = flat_map (need_relocations l) (starts_from (got_start l) (entries l))

-- ** relocations of fields: addresses of 8 bytes, in an image that may be loaded at any address

abbrev pub relative : ℕ → ℤ → ImageRelocation
relative place addend = record { place = place; kind = loader.Relative; symbol = 0; addend = addend }

-- S + A, as 64 bits hold it
abbrev pub sum_of : Linking → ℕ → Relocation → ℤ
sum_of l o r = cast_signed w64 (modulo (2 ^ 64) (pos (own_number l r.kind (binding l o r)) +ℤ r.addend))

abbrev pub relative_of : Linking → AbsoluteField → ImageRelocation
relative_of l field =
    relative (place l field.object field.section field.relocation.offset) (sum_of l field.object field.relocation)

abbrev pub field_relocations : Linking → ℕ → ℕ → Relocation → List ImageRelocation
field_relocations l o t r =
    if is_absolute r.kind then relative (place l o t r.offset) (sum_of l o r) ∷ [] else []

abbrev pub section_relocations : Linking → ℕ → List ℕ → ℕ → List ImageRelocation
section_relocations l o b t = flat_map (field_relocations l o t) (relocations b t)

unfoldable pub object_relocations : Linking → ℕ → List ℕ → List ImageRelocation
object_relocations l o b = flat_map (section_relocations l o b) (range_with_len 0 (section_count b))

unfoldable pub relatives : Linking → List ImageRelocation
relatives l =
    if is_moved l.kind then sorted_by (λ r. r.place) (flat_map_from (object_relocations l) 0 l.objects) else []

-- all relocations, in the order of their places: the offset table comes after all sections
unfoldable pub image_relocations : Linking → List ImageRelocation
image_relocations l = relatives l ++ got_relocations l

-- ** the flag of a module that reaches thread-local data at a fixed distance from the thread pointer

unfoldable pub is_flagged : Linking → Bool
is_flagged l = is_module l.kind && list_any (λ own. list_any (λ (site : Site). is_initial site.form) own) l.sites

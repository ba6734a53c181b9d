-- Two files whose headers say the same, and whose parts hold the same bytes, spell the same image.
use Rattle.std.proofs.Common.{◌≡◌, ◌+◌, ◌<◌, ◌∙◌, ℕ, List, Bool, Option, refl, sym, ap, ◌==◌, if◌then◌else◌}
use Rattle.std.proofs.Common.{slice_range}
use Rattle.std.specs.Option.{option_map}
use Rattle.elf_records.specs.declared.file_header.TheConstants.{ET_DYN}
use Rattle.elf_records.specs.declared.dynamic.TheConstants.{DT_FLAGS, DT_FLAGS_1}
use Rattle.image_rules.specs.declared.places.FileKind.{FileKind}
use Rattle.image_rules.specs.declared.places.FileKind.TheVariants.{Exe, Pie, Module}
use Rattle.image_faults.specs.Parts.{header, segment, loads, tls}
use Rattle.image_faults.specs.Array.{array_size, has_tag, flags_entry, symbol_count, relocation_count}
use Rattle.image_faults.specs.Places.{file_kind, is_flagged, got}
use Rattle.image_faults.specs.Symbols.{symbol}
use Rattle.image_faults.specs.Relocations.{rela}
use Rattle.image_file.specs.declared.part.PartClass.{PartClass}
use Rattle.image_file.specs.declared.part.TlsPart.{TlsPart}
use Rattle.image_file.specs.declared.symbol.ImageSymbol.{ImageSymbol}
use Rattle.image_file.specs.declared.relocation.ImageRelocation.{ImageRelocation}
use Rattle.image_file.specs.Spelled.{Part, Spelled, class_numbered, tls_part, symbol_of, text_at, relocation_of, part}
use Rattle.image_file.specs.Spelled.{name, strings, spelled}
use Rattle.image_writer.proofs.SameBytes.{HoldSame, range_is_part}
use Rattle.image_writer.proofs.SameLists.{same_tabled}
use Rattle.image_writer.proofs.SameArray.{SameHeaders, same_has_tag, same_flags_entry, same_relocation_count}
use Rattle.image_writer.proofs.SameTables.{same_symbol_count, same_strings, same_symbol_entry, same_rela_entry}
use Rattle.image_faults.specs.PlaceLaws.{AreRightTables as AreRight}

-- an entry of the flags' place has this tag in both or in neither
flags_tag : (f b : List ℕ) → SameHeaders f b → (tag : ℕ) → has_tag f (flags_entry f) tag ≡ has_tag b (flags_entry b) tag
flags_tag f b same tag =
    ap (λ j. has_tag f j tag) (same_flags_entry f b same) ∙ same_has_tag f b same (flags_entry b) tag

-- the files are of the same kind
pub same_kind : (f b : List ℕ) → SameHeaders f b → file_kind f ≡ file_kind b
same_kind f b same =
    ap (λ t. if t == ET_DYN then (if has_tag f (flags_entry f) DT_FLAGS_1 then Pie else Module) else Exe) same.file_type
    ∙ ap (λ c. if (header b).e_type == ET_DYN then (if c then Pie else Module) else Exe) (flags_tag f b same DT_FLAGS_1)

-- both ask for their thread-local data in the same way
pub same_flagged : (f b : List ℕ) → SameHeaders f b → is_flagged f ≡ is_flagged b
same_flagged f b same = flags_tag f b same DT_FLAGS

-- a part, made of what stands in its header and of its bytes
made : PartClass → ℕ → List ℕ → Part
made class address bytes = record { class = class; address = address; bytes = bytes }

part_made : (b : List ℕ) (i : ℕ)
    → part b i ≡ made (class_numbered (segment b i).flags) (segment b i).vaddr
    (slice_range b (segment b i).offset ((segment b i).offset + (segment b i).filesz))
unfolding part made
part_made b i = refl

-- a range of bytes of one file, at the place of one in the other
range_there : (f b : List ℕ) (n m at from : ℕ) → at ≡ from → n ≡ m → HoldSame m from f b
    → slice_range f at (at + n) ≡ slice_range b from (from + m)
range_there f b n m at from place size same =
    ap (λ p. slice_range f p (p + n)) place
    ∙ ap (λ k. slice_range f from (from + k)) size
    ∙ range_is_part m from f ∙ same ∙ sym (range_is_part m from b)

-- each part is the same
pub same_part : (f b : List ℕ) → SameHeaders f b → (i : ℕ) → i < loads b
    → HoldSame (segment b i).filesz (segment b i).offset f b → part f i ≡ part b i
same_part f b same i h bytes =
    let content : slice_range f (segment f i).offset ((segment f i).offset + (segment f i).filesz)
    ≡ slice_range b (segment b i).offset ((segment b i).offset + (segment b i).filesz) =
    range_there f b (segment f i).filesz (segment b i).filesz (segment f i).offset (segment b i).offset
    (same.offset_is i h) (same.filesz_is i h) bytes in
    part_made f i
    ∙ ap (λ n. made (class_numbered n) (segment f i).vaddr
    (slice_range f (segment f i).offset ((segment f i).offset + (segment f i).filesz))) (same.flags_are i h)
    ∙ ap (λ a. made (class_numbered (segment b i).flags) a
    (slice_range f (segment f i).offset ((segment f i).offset + (segment f i).filesz))) (same.vaddr_is i h)
    ∙ ap (λ l. made (class_numbered (segment b i).flags) (segment b i).vaddr l) content
    ∙ sym (part_made b i)

-- and so are all
pub same_parts : (f b : List ℕ) → SameHeaders f b
    → ((i : ℕ) → i < loads b → HoldSame (segment b i).filesz (segment b i).offset f b)
    → (spelled f).parts ≡ (spelled b).parts
same_parts f b same bytes =
    same_tabled (part f) (part b) (loads f) (loads b) same.loads_are (λ i h. same_part f b same i h (bytes i h))

-- the symbols
pub same_symbols : (f b : List ℕ) → SameHeaders f b → AreRight b → (spelled f).symbols ≡ (spelled b).symbols
same_symbols f b same tables =
    same_tabled (λ k. symbol_of (symbol f k)) (λ k. symbol_of (symbol b k)) (symbol_count f) (symbol_count b)
    (same_symbol_count f b same tables.hash)
    (λ k h. ap symbol_of (same_symbol_entry f b same tables.symbols k h))

-- their names
pub same_names : (f b : List ℕ) → SameHeaders f b → AreRight b → (spelled f).names ≡ (spelled b).names
same_names f b same tables =
    same_tabled (name f) (name b) (symbol_count f) (symbol_count b) (same_symbol_count f b same tables.hash)
    (λ k h.
    ap (λ l. text_at l (symbol f k).name) (same_strings f b same tables.strings)
    ∙ ap (λ s. text_at (strings b) s.name) (same_symbol_entry f b same tables.symbols k h))

-- the relocations
pub same_relocations : (f b : List ℕ) → SameHeaders f b → AreRight b → (spelled f).relocations ≡ (spelled b).relocations
same_relocations f b same tables =
    same_tabled (λ k. relocation_of (rela f k)) (λ k. relocation_of (rela b k)) (relocation_count f)
    (relocation_count b)
    (same_relocation_count f b same)
    (λ k h. ap relocation_of (same_rela_entry f b same tables.relocations k h))

-- an image, made of what it has
image_of : FileKind → List Part → ℕ → Option ℕ → Option TlsPart → List ImageSymbol → List (List ℕ)
    → List ImageRelocation → Bool → Spelled
image_of kind parts array_size got tls symbols names relocations is_flagged = record {
  kind = kind;
  parts = parts;
  array_size = array_size;
  got = got;
  tls = tls;
  symbols = symbols;
  names = names;
  relocations = relocations;
  is_flagged = is_flagged;
}

-- two that have the same are the same
made_same : {a b : FileKind} {p q : List Part} {m n : ℕ} {g h : Option ℕ} {t u : Option TlsPart}
    {s r : List ImageSymbol} {v w : List (List ℕ)} {x y : List ImageRelocation} {c d : Bool}
    → a ≡ b → p ≡ q → m ≡ n → g ≡ h → t ≡ u → s ≡ r → v ≡ w → x ≡ y → c ≡ d
    → image_of a p m g t s v x c ≡ image_of b q n h u r w y d
made_same kind parts array got tls symbols names relocations flagged =
    rw (kind, parts, array, got, tls, symbols, names, relocations, flagged) refl

-- the image that bytes spell is made so
spelled_made : (b : List ℕ)
    → spelled b ≡ image_of (file_kind b) (spelled b).parts (array_size b) (got b) (option_map tls_part (tls b))
    (spelled b).symbols (spelled b).names (spelled b).relocations (is_flagged b)
unfolding image_of
spelled_made b = refl

-- both files spell the same image
pub same_spelled : (f b : List ℕ) → SameHeaders f b → AreRight b
    → ((i : ℕ) → i < loads b → HoldSame (segment b i).filesz (segment b i).offset f b)
    → got f ≡ got b → option_map tls_part (tls f) ≡ option_map tls_part (tls b) → spelled f ≡ spelled b
same_spelled f b same tables bytes got_is tls_is =
    spelled_made f
    ∙ made_same (same_kind f b same) (same_parts f b same bytes) same.array_size_is got_is tls_is
    (same_symbols f b same tables) (same_names f b same tables) (same_relocations f b same tables)
    (same_flagged f b same)
    ∙ sym (spelled_made b)

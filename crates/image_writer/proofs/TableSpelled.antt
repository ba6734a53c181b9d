-- A file of an image spells its parts, and one of finished contents their symbols, names and relocations.
use Rattle.std.proofs.Common.{◌≡◌, ◌≢◌, ◌+◌, ◌-◌, ◌<◌, ◌≤◌, ℕ, zero, suc, Bool, List, [], Option, All, length, get_or}
use Rattle.std.proofs.Common.{slice_range, refl, ap, ◌∙◌, arith}
use Rattle.std.proofs.lemmas.List.{get_or-map, get_or_default, length-map, same_lists}
use Rattle.std.proofs.lemmas.Option.{get_or_from_slice_get, slice_get-get_or}
use Rattle.elf_records.specs.Fields.{part_at}
use Rattle.elf_records.specs.declared.program_header.Segment.{Segment}
use Rattle.elf_records.specs.declared.symbol.SymbolEntry.{SymbolEntry}
use Rattle.image_rules.specs.declared.places.FileKind.{FileKind}
use Rattle.image_faults.specs.Parts.{loads, segment}
use Rattle.image_faults.specs.Array.{relocation_count, symbol_count}
use Rattle.image_faults.specs.Symbols as found
use Rattle.image_faults.specs.Relocations.{rela}
use Rattle.image_file.specs.declared.part.PartClass.{PartClass}
use Rattle.image_file.specs.declared.part.PartClass.TheVariants.{Executable, ReadOnly, Writable}
use Rattle.image_file.specs.declared.part.TlsPart.{TlsPart}
use Rattle.image_file.specs.declared.symbol.ImageSymbol.{ImageSymbol}
use Rattle.image_file.specs.declared.relocation.ImageRelocation.{ImageRelocation}
use Rattle.image_file.specs.Spelled as spelling
use Rattle.image_file.specs.Spelled.{Part, Spelled, class_numbered, relocation_of, symbol_of, text_at}
use Rattle.image_file.specs.Tabled.{tabled, length-tabled, tabled_at}
use Rattle.image_writer.specs.Outlined.{no_part, outline_of, place_of}
use Rattle.image_writer.specs.Page.{file_offset, flags_of, load_header}
use Rattle.image_writer.specs.Files.{IsFileOf}
use Rattle.image_writer.specs.Contents.{Contents, all_names, all_symbols, name, null_symbol, symbol}
use Rattle.image_writer.specs.Tables.{name_start, strings, symbol_entry, symbol_total}
use Rattle.image_writer.specs.Linkable.{IsRightSymbol}
use Rattle.image_writer.proofs.Headed.{IsHeaded}
use Rattle.image_writer.proofs.TableKinds.{relocation_back, symbol_back}
use Rattle.image_writer.proofs.TableNames.{text_is}
use Rattle.image_writer.proofs.TablePlaces.{relocation_count_is, strings_are, symbol_count_is}
use Rattle.image_writer.proofs.TableRules.{IsRead}

-- a list of what stands at each number is a list that has just that
pub tabled_is : {X : Type 0} (g : ℕ → X) (n : ℕ) (xs : List X) → n ≡ length xs
    → ((k : ℕ) (d : X) → k < length xs → g k ≡ get_or xs k d) → tabled g n ≡ xs
tabled_is g n xs long each =
    let count = length-tabled g n in
    same_lists (tabled g n) xs (count ∙ long)
    (λ k d below.
    let inside : k < n = omega (arith, count, below) in
    get_or_from_slice_get (tabled g n) k (g k) d (tabled_at g n k inside) ∙ each k d (omega (arith, long, inside)))

-- the class of a part by its flags
pub class_back : (class : PartClass) → class_numbered (flags_of class) ≡ class
class_back Executable = refl
class_back ReadOnly = refl
class_back Writable = refl

-- what is left of a sum
cut : (a n : ℕ) → a + n - a ≡ n
cut a n = omega arith

-- a part by its fields
part_made : PartClass → ℕ → List ℕ → Part
part_made class address bytes = record { class = class; address = address; bytes = bytes }

-- a part by its header
part_told : (f : List ℕ) (kind : FileKind) (s : Segment) (p : Part) → s ≡ load_header kind (place_of p)
    → part_at (length p.bytes) (file_offset kind p.address) f ≡ p.bytes
    → part_made (class_numbered s.flags) s.vaddr (slice_range f s.offset (s.offset + s.filesz)) ≡ p
unfolding load_header part_at part_made
part_told f kind s p same here =
    ap (λ t. part_made (class_numbered t.flags) t.vaddr (slice_range f t.offset (t.offset + t.filesz))) same
    ∙ ap (λ n. part_made (class_numbered (flags_of p.class)) p.address (part_at n (file_offset kind p.address) f))
    (cut (file_offset kind p.address) (length p.bytes))
    ∙ ap (λ b. part_made (class_numbered (flags_of p.class)) p.address b) here
    ∙ ap (λ x. part_made x p.address p.bytes) (class_back p.class)

-- the parts of an image
pub parts_are : (f : List ℕ) (s : Spelled) → IsHeaded f (outline_of s) → IsFileOf f s
    → (spelling.spelled f).parts ≡ s.parts
unfolding spelling.part part_made
parts_are f s headed file =
    let many = length-map s.parts place_of in
    tabled_is (spelling.part f) (loads f) s.parts (headed.loads_are ∙ many)
    (λ i d below.
    part_told f s.kind (segment f i) (get_or s.parts i d)
    (headed.load_is i (omega (arith, many, below))
    ∙ ap (load_header s.kind) (get_or-map place_of s.parts i d no_part below))
    (file.parts_are i (get_or s.parts i d) (slice_get-get_or s.parts i d below)))

-- the symbols
pub symbols_are : (f : List ℕ) (c : Contents) → IsRead f c → (spelling.spelled f).symbols ≡ all_symbols c
symbols_are f c r =
    let count : symbol_total c ≡ length (all_symbols c) = omega arith in
    tabled_is (λ k. symbol_of (found.symbol f k)) (symbol_count f) (all_symbols c) (symbol_count_is f c r.seen ∙ count)
    (λ k d below.
    let inside : k < symbol_total c = omega (arith, below) in
    ap symbol_of (r.symbols_are k inside) ∙ symbol_back (symbol c k) (name_start c k)
    ∙ get_or_default (all_symbols c) k null_symbol d below)

-- a name has no zero byte
name_whole : (c : Contents) → ((k : ℕ) → 0 < k → k ≤ length c.symbols → IsRightSymbol c k) → (k : ℕ)
    → k < symbol_total c
    → All (λ byte. byte ≢ 0) (name c k)
name_whole c symbols zero below = λ i d inside. absurd (omega (arith, inside))
name_whole c symbols (suc k) below = (symbols (suc k) (omega arith) (omega (arith, below))).named

-- the names
pub names_are : (f : List ℕ) (c : Contents) → IsRead f c → ((k : ℕ) → 0 < k → k ≤ length c.symbols → IsRightSymbol c k)
    → (spelling.spelled f).names ≡ all_names c
unfolding symbol_entry strings
names_are f c r symbols =
    let named = r.named in
    let count : symbol_total c ≡ length (all_names c) = omega (arith, named) in
    tabled_is (spelling.name f) (symbol_count f) (all_names c) (symbol_count_is f c r.seen ∙ count)
    (λ k d below.
    let inside : k < symbol_total c = omega (arith, count, below) in
    let start : (found.symbol f k).name ≡ name_start c k = ap (λ (e : SymbolEntry). e.name) (r.symbols_are k inside) in
    ap (λ t. text_at t (found.symbol f k).name) (strings_are f c r.seen) ∙ ap (text_at (strings c)) start
    ∙ text_is (all_names c) k below (name_whole c symbols k inside)
    ∙ get_or_default (all_names c) k [] d below)

-- the relocations
pub relocations_are : (f : List ℕ) (c : Contents) → IsRead f c → (spelling.spelled f).relocations ≡ c.relocations
relocations_are f c r =
    tabled_is (λ k. relocation_of (rela f k)) (relocation_count f) c.relocations (relocation_count_is f c r.seen)
    (λ k d below. ap relocation_of (r.relocations_are k d below) ∙ relocation_back (get_or c.relocations k d))

-- an image is what its fields are
spelled_made : FileKind → List Part → ℕ → Option ℕ → Option TlsPart → List ImageSymbol → List (List ℕ)
    → List ImageRelocation
    → Bool → Spelled
spelled_made kind parts array_size got tls symbols names relocations is_flagged = record {
  kind = kind;
  parts = parts;
  array_size = array_size;
  got = got;
  tls = tls;
  symbols = symbols;
  names = names;
  relocations = relocations;
  is_flagged = is_flagged;
}

-- images of the same fields are the same
pub spelled_same : (s t : Spelled) → s.kind ≡ t.kind → s.parts ≡ t.parts → s.array_size ≡ t.array_size → s.got ≡ t.got
    → s.tls ≡ t.tls → s.symbols ≡ t.symbols → s.names ≡ t.names → s.relocations ≡ t.relocations
    → s.is_flagged ≡ t.is_flagged → s ≡ t
unfolding spelled_made
spelled_same s t kind parts array_size got tls symbols names relocations is_flagged =
    ap (λ x. spelled_made x s.parts s.array_size s.got s.tls s.symbols s.names s.relocations s.is_flagged) kind
    ∙ ap (λ x. spelled_made t.kind x s.array_size s.got s.tls s.symbols s.names s.relocations s.is_flagged) parts
    ∙ ap (λ x. spelled_made t.kind t.parts x s.got s.tls s.symbols s.names s.relocations s.is_flagged) array_size
    ∙ ap (λ x. spelled_made t.kind t.parts t.array_size x s.tls s.symbols s.names s.relocations s.is_flagged) got
    ∙ ap (λ x. spelled_made t.kind t.parts t.array_size t.got x s.symbols s.names s.relocations s.is_flagged) tls
    ∙ ap (λ x. spelled_made t.kind t.parts t.array_size t.got t.tls x s.names s.relocations s.is_flagged) symbols
    ∙ ap (λ x. spelled_made t.kind t.parts t.array_size t.got t.tls t.symbols x s.relocations s.is_flagged) names
    ∙ ap (λ x. spelled_made t.kind t.parts t.array_size t.got t.tls t.symbols t.names x s.is_flagged) relocations
    ∙ ap (λ x. spelled_made t.kind t.parts t.array_size t.got t.tls t.symbols t.names t.relocations x) is_flagged

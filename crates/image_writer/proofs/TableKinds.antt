-- The numbers by which the tables say what a symbol and a relocation are, read as what they stand for.
use Rattle.std.proofs.Common.{◌≡◌, ◌≢◌, ◌+◌, ◌*◌, ◌/◌, ◌%◌, ◌^◌, ◌<◌, ◌≤◌, ◌==◌, ◌⊎◌, ℕ, Bool, true, false, not, Some}
use Rattle.std.proofs.Common.{FitsSigned, ℤ, unwrap_or}
use Rattle.std.proofs.Common.{refl, ap, ◌∙◌, arith, inl, inr, if◌then◌else◌}
use Rattle.std.specs.Int.{w64}
use Rattle.elf_records.specs.Records.{rela_symbol, rela_kind, symbol_binding, symbol_kind}
use Rattle.elf_records.specs.FittingRecords.{FitsSymbolEntry, FitsRela}
use Rattle.elf_records.specs.declared.symbol.TheConstants.{SHN_UNDEF, STB_GLOBAL, STB_WEAK, STT_COMMON, STT_TLS}
use Rattle.image_faults.specs.declared.loader_kind.LoaderKind.{LoaderKind}
use Rattle.image_faults.specs.declared.loader_kind.LoaderKind.TheVariants.{JumpSlot, Relative, Module, ModuleOffset}
use Rattle.image_faults.specs.declared.loader_kind.LoaderKind.TheVariants.{ThreadOffset, Descriptor}
use Rattle.image_faults.specs.Relocations.{field_width, kind_number, loader_kind}
use Rattle.elf_records.specs.declared.symbol.SymbolBinding.{SymbolBinding}
use Rattle.elf_records.specs.declared.symbol.SymbolBinding.TheVariants.{Local, Global, Weak}
use Rattle.elf_records.specs.declared.symbol.SymbolType.{SymbolType}
use Rattle.elf_records.specs.declared.symbol.SymbolType.TheVariants.{NoType, Object, Func, Section, File, Tls}
use Rattle.elf_records.specs.declared.symbol.Visibility.{Visibility}
use Rattle.elf_records.specs.declared.symbol.Visibility.TheVariants.{Default, Internal, Hidden, Protected}
use Rattle.image_file.specs.declared.symbol.ImageSymbol.{ImageSymbol}
use Rattle.image_file.specs.declared.relocation.ImageRelocation.{ImageRelocation}
use Rattle.elf_records.specs.Symbols.{binding_number, binding_numbered, type_number, type_numbered, visibility_number}
use Rattle.elf_records.specs.Symbols.{visibility_numbered}
use Rattle.image_file.specs.Spelled.{relocation_of, symbol_of}
use Rattle.image_writer.specs.Tables.{relocation_entry, symbol_entry}
use Rattle.image_writer.specs.Linkable.{width}

-- the number of a binding, read as what it stands for
binding_back : (b : SymbolBinding) → binding_numbered (binding_number b) ≡ b
binding_back Local = refl
binding_back Global = refl
binding_back Weak = refl

-- the type of a symbol
type_back : (t : SymbolType) → type_numbered (type_number t) ≡ t
type_back NoType = refl
type_back Object = refl
type_back Func = refl
type_back Section = refl
type_back File = refl
type_back Tls = refl

-- its visibility
visibility_back : (v : Visibility) → visibility_numbered (visibility_number v % 4) ≡ v
visibility_back Default = refl
visibility_back Internal = refl
visibility_back Hidden = refl
visibility_back Protected = refl

-- whether it is defined
defined_back : (d : Bool) → not ((if d then 1 else SHN_UNDEF) == SHN_UNDEF) ≡ d
defined_back true = refl
defined_back false = refl

-- the type of a relocation
pub kind_back : (k : LoaderKind) → loader_kind (kind_number k) ≡ Some k
kind_back JumpSlot = refl
kind_back Relative = refl
kind_back Module = refl
kind_back ModuleOffset = refl
kind_back ThreadOffset = refl
kind_back Descriptor = refl

-- how many bytes a relocation writes
pub width_back : (k : LoaderKind) → field_width (kind_number k) ≡ width k
width_back JumpSlot = refl
width_back Relative = refl
width_back Module = refl
width_back ModuleOffset = refl
width_back ThreadOffset = refl
width_back Descriptor = refl

-- the number of a binding is small
binding_small : (b : SymbolBinding) → binding_number b ≤ 2
binding_small Local = omega arith
binding_small Global = omega arith
binding_small Weak = omega arith

-- the number of a type is at most that of thread-local data
pub type_small : (t : SymbolType) → type_number t ≤ STT_TLS
type_small NoType = omega arith
type_small Object = omega arith
type_small Func = omega arith
type_small Section = omega arith
type_small File = omega arith
type_small Tls = omega arith

-- and never that of common data
pub type_uncommon : (t : SymbolType) → type_number t ≢ STT_COMMON
type_uncommon NoType = λ e. omega (arith, e)
type_uncommon Object = λ e. omega (arith, e)
type_uncommon Func = λ e. omega (arith, e)
type_uncommon Section = λ e. omega (arith, e)
type_uncommon File = λ e. omega (arith, e)
type_uncommon Tls = λ e. omega (arith, e)

-- the number of thread-local data is that of no other type
pub type_tls : (t : SymbolType) → type_number t ≡ STT_TLS → t ≡ Tls
type_tls NoType = λ e. absurd (omega (arith, e))
type_tls Object = λ e. absurd (omega (arith, e))
type_tls Func = λ e. absurd (omega (arith, e))
type_tls Section = λ e. absurd (omega (arith, e))
type_tls File = λ e. absurd (omega (arith, e))
type_tls Tls = λ e. refl

-- a symbol that is not local is global or weak
pub binding_shared : (b : SymbolBinding) → b ≢ Local → (binding_number b ≡ STB_GLOBAL) ⊎ (binding_number b ≡ STB_WEAK)
binding_shared Local = λ shared. absurd (shared refl)
binding_shared Global = λ shared. inl refl
binding_shared Weak = λ shared. inr refl

-- the number of a visibility fits a byte
visibility_small : (v : Visibility) → visibility_number v < 256
visibility_small Default = omega arith
visibility_small Internal = omega arith
visibility_small Hidden = omega arith
visibility_small Protected = omega arith

-- that of a type of relocation fits 32 bits
kind_small : (k : LoaderKind) → kind_number k < 4294967296
kind_small JumpSlot = omega arith
kind_small Relative = omega arith
kind_small Module = omega arith
kind_small ModuleOffset = omega arith
kind_small ThreadOffset = omega arith
kind_small Descriptor = omega arith

-- that of a section fits 16 bits
section_small : (d : Bool) → (if d then 1 else SHN_UNDEF) < 65536
section_small true = omega arith
section_small false = omega arith

-- a symbol that is not defined has no section
pub undefined_is : (d : Bool) → d ≡ false → (if d then 1 else SHN_UNDEF) ≡ SHN_UNDEF
undefined_is true = λ e. cc
undefined_is false = λ e. refl

-- a symbol that has a section is defined
pub defined_is : (d : Bool) → (if d then 1 else SHN_UNDEF) ≢ SHN_UNDEF → d ≡ true
defined_is true = λ e. refl
defined_is false = λ e. absurd (e refl)

-- the upper four bits of one byte
high_four : (b t : ℕ) → t < 16 → (16 * b + t) / 16 ≡ b
high_four b t small = omega (arith, small)

-- the lower four bits of one byte
low_four : (b t : ℕ) → t < 16 → (16 * b + t) % 16 ≡ t
low_four b t small = omega (arith, small)

-- the upper half of a number of 64 bits
high_half : (s n : ℕ) → n < 4294967296 → (s * 2 ^ 32 + n) / 2 ^ 32 ≡ s
high_half s n small = omega (arith, small)

-- the lower half of one
low_half : (s n : ℕ) → n < 4294967296 → (s * 2 ^ 32 + n) % 2 ^ 32 ≡ n
low_half s n small = omega (arith, small)

-- the binding of a symbol in its entry
pub binding_of_entry : (s : ImageSymbol) (at : ℕ) → symbol_binding (symbol_entry s at) ≡ binding_number s.binding
unfolding symbol_entry
binding_of_entry s at =
    let small = type_small s.kind in high_four (binding_number s.binding) (type_number s.kind) (omega (arith, small))

-- the type of a symbol in its entry
pub kind_of_entry : (s : ImageSymbol) (at : ℕ) → symbol_kind (symbol_entry s at) ≡ type_number s.kind
unfolding symbol_entry
kind_of_entry s at =
    let small = type_small s.kind in low_four (binding_number s.binding) (type_number s.kind) (omega (arith, small))

-- the symbol of a relocation in its entry
pub symbol_of_entry : (r : ImageRelocation) → rela_symbol (relocation_entry r) ≡ r.symbol
unfolding relocation_entry
symbol_of_entry r = high_half r.symbol (kind_number r.kind) (kind_small r.kind)

-- the type of a relocation in its entry
pub type_of_entry : (r : ImageRelocation) → rela_kind (relocation_entry r) ≡ kind_number r.kind
unfolding relocation_entry
type_of_entry r = low_half r.symbol (kind_number r.kind) (kind_small r.kind)

-- the entry of a symbol fits
pub symbol_fits : (s : ImageSymbol) (at : ℕ) → at < 2 ^ 32 → s.value < 2 ^ 64 → s.size < 2 ^ 64
    → FitsSymbolEntry (symbol_entry s at)
unfolding symbol_entry
symbol_fits s at below value size =
    let type = type_small s.kind in
    let binding = binding_small s.binding in
    let info : 16 * binding_number s.binding + type_number s.kind < 256 = omega (arith, type, binding) in
    (below, (info, (visibility_small s.visibility, (section_small s.is_defined, (value, (size, tt))))))

-- the entry of a relocation fits
pub relocation_fits : (r : ImageRelocation) → r.symbol < 2 ^ 32 → r.place < 2 ^ 64 → FitsSigned w64 r.addend
    → FitsRela (relocation_entry r)
unfolding relocation_entry
relocation_fits r below place addend =
    let kind = kind_small r.kind in
    let info : r.symbol * 2 ^ 32 + kind_number r.kind < 2 ^ 64 = omega (arith, kind, below) in
    ((place, (info, tt)), addend)

-- a symbol by its fields
symbol_made : SymbolBinding → SymbolType → Visibility → Bool → ℕ → ℕ → ImageSymbol
symbol_made b t v d value size = record {
  binding = b;
  kind = t;
  visibility = v;
  is_defined = d;
  value = value;
  size = size;
}

-- symbols of the same fields are the same
symbol_same : {b b1 : SymbolBinding} {t t1 : SymbolType} {v v1 : Visibility} {d d1 : Bool} (value size : ℕ)
    → b ≡ b1 → t ≡ t1 → v ≡ v1 → d ≡ d1 → symbol_made b t v d value size ≡ symbol_made b1 t1 v1 d1 value size
symbol_same {b1} {t} {t1} {v} {v1} {d} value size at_b at_t at_v at_d =
    ap (λ x. symbol_made x t v d value size) at_b ∙ ap (λ x. symbol_made b1 x v d value size) at_t
    ∙ ap (λ x. symbol_made b1 t1 x d value size) at_v ∙ ap (λ x. symbol_made b1 t1 v1 x value size) at_d

-- the entry of a symbol reads as that symbol
pub symbol_back : (s : ImageSymbol) (at : ℕ) → symbol_of (symbol_entry s at) ≡ s
unfolding symbol_of symbol_entry symbol_made
symbol_back s at =
    let small = type_small s.kind in
    let below : type_number s.kind < 16 = omega (arith, small) in
    symbol_same s.value s.size
    (ap binding_numbered (high_four (binding_number s.binding) (type_number s.kind) below) ∙ binding_back s.binding)
    (ap type_numbered (low_four (binding_number s.binding) (type_number s.kind) below) ∙ type_back s.kind)
    (visibility_back s.visibility) (defined_back s.is_defined)

-- a relocation by its fields
relocation_made : ℕ → LoaderKind → ℕ → ℤ → ImageRelocation
relocation_made place kind symbol addend = record { place = place; kind = kind; symbol = symbol; addend = addend }

-- relocations of the same fields are the same
relocation_same : {k k1 : LoaderKind} {s s1 : ℕ} (place : ℕ) (addend : ℤ) → k ≡ k1 → s ≡ s1
    → relocation_made place k s addend ≡ relocation_made place k1 s1 addend
relocation_same {k1} {s} place addend at_k at_s =
    ap (λ x. relocation_made place x s addend) at_k ∙ ap (λ x. relocation_made place k1 x addend) at_s

-- the entry of a relocation reads as that relocation
pub relocation_back : (r : ImageRelocation) → relocation_of (relocation_entry r) ≡ r
unfolding relocation_of relocation_entry relocation_made
relocation_back r =
    relocation_same r.place r.addend
    (ap (λ n. unwrap_or (loader_kind n) Relative) (low_half r.symbol (kind_number r.kind) (kind_small r.kind))
    ∙ ap (λ o. unwrap_or o Relative) (kind_back r.kind))
    (high_half r.symbol (kind_number r.kind) (kind_small r.kind))

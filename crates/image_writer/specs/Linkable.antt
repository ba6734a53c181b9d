-- What a linker must ensure of the contents of an image.
use Rattle.std.specs.Prelude.{◌≡◌, ◌≢◌, ◌+◌, ◌<◌, ◌≤◌, ◌⊎◌, ◌≤ℤ◌, ℕ, ℤ, pos, true, false, List, [], ◌∷◌}
use Rattle.std.specs.Prelude.{Option, Some, None, All, IsSome, length}
use Rattle.image_rules.specs.declared.places.FileKind.TheVariants as file
use Rattle.image_faults.specs.declared.loader_kind.LoaderKind.{LoaderKind}
use Rattle.image_faults.specs.declared.loader_kind.LoaderKind.TheVariants.{JumpSlot, Relative, Module, ModuleOffset}
use Rattle.image_faults.specs.declared.loader_kind.LoaderKind.TheVariants.{ThreadOffset, Descriptor}
use Rattle.image_file.specs.declared.part.TlsPart.{TlsPart}
use Rattle.elf_records.specs.declared.symbol.SymbolBinding.TheVariants.{Local}
use Rattle.elf_records.specs.declared.symbol.SymbolType.TheVariants.{Tls}
use Rattle.elf_records.specs.Symbols.{get_address}
use Rattle.image_file.specs.declared.relocation.ImageRelocation.{ImageRelocation}
use Rattle.image_writer.specs.Outlined.{outline_of, end_of, part}
use Rattle.image_writer.specs.Contents.{Contents, symbol, name}
use Rattle.image_writer.specs.Tables.{finished}
use Rattle.image_writer.specs.Loadable.{IsLoadable, HoldsTls}

-- how many bytes the TLS segment has
abbrev pub tls_size : Option TlsPart → ℕ
tls_size None = 0
tls_size (Some t) = t.size

-- each symbol is GLOBAL or WEAK, has a name without a zero byte, and lies in the TLS segment if it is thread-local here
pub record IsRightSymbol (c : Contents) (k : ℕ) : Type 0 where
  pub shared : (symbol c k).binding ≢ Local
  pub named : All (λ byte. byte ≢ 0) (name c k)
  pub inside : (symbol c k).kind ≡ Tls → (symbol c k).is_defined ≡ true → (symbol c k).value ≤ tls_size c.tls

-- a thread-local symbol of another image, and the function of the run time
abbrev pub IsImport : Contents → ℕ → Type 0
IsImport c k = (k ≢ 0) × ((symbol c k).is_defined ≡ false) × ((symbol c k).kind ≡ Tls)

abbrev pub IsRuntime : Contents → ℕ → Type 0
IsRuntime c k = ((symbol c k).is_defined ≡ false) × (name c k ≡ get_address)

-- the symbol that a relocation may name; number 0 stands for the image itself
abbrev pub MayName : Contents → LoaderKind → ℕ → Type 0
MayName c JumpSlot k = IsRuntime c k
MayName c Relative k = k ≡ 0
MayName c Module k = (k ≡ 0) ⊎ IsImport c k
MayName c ModuleOffset k = IsImport c k
MayName c ThreadOffset k = (k ≡ 0) ⊎ IsImport c k
MayName c Descriptor k = (k ≡ 0) ⊎ IsImport c k

-- how many bytes a relocation writes
abbrev pub width : LoaderKind → ℕ
width JumpSlot = 8
width Relative = 8
width Module = 8
width ModuleOffset = 8
width ThreadOffset = 8
width Descriptor = 16

-- an offset in the image's own TLS segment; the segment's end counts as inside
abbrev pub IsOffset : Contents → ℤ → Type 0
IsOffset c addend = (pos 0 ≤ℤ addend) × (addend ≤ℤ pos (tls_size c.tls))

-- what the type of a relocation without a symbol needs of the image's own TLS segment
abbrev pub HasOwnTls : Contents → LoaderKind → ℤ → Type 0
HasOwnTls c Module addend = IsSome c.tls
HasOwnTls c ThreadOffset addend = IsSome c.tls × IsOffset c addend
HasOwnTls c Descriptor addend = IsSome c.tls × IsOffset c addend
HasOwnTls c JumpSlot addend = Unit {0}
HasOwnTls c Relative addend = Unit {0}
HasOwnTls c ModuleOffset addend = Unit {0}

-- a part holds the bytes that the relocation writes
abbrev pub Holds : Contents → ImageRelocation → ℕ → Type 0
Holds c r i =
    let p = part (outline_of (finished c)) i in
    (i < length c.parts) × (p.address ≤ r.place) × (r.place + width r.kind ≤ end_of p)

-- the relocation names what it may, lies in a part, and after the field of the one before it
pub record IsRightRelocation (c : Contents) (r : ImageRelocation) : Type 0 where
  pub symbol_in : r.symbol ≤ length c.symbols
  pub names : MayName c r.kind r.symbol
  pub own : r.symbol ≡ 0 → HasOwnTls c r.kind r.addend
  pub held : (i : ℕ) × Holds c r i

-- relocations stand in the order of their places, and no two fields overlap
abbrev pub AreRising : List ImageRelocation → Type 0
AreRising [] = Unit {0}
AreRising (r ∷ []) = Unit {0}
AreRising (r ∷ (s ∷ more)) = (r.place + width r.kind ≤ s.place) × AreRising (s ∷ more)

-- what a linker must ensure: a page of headers can describe the parts with the tables after them, and only a
-- module uses static TLS
pub record IsLinkable (c : Contents) : Type 0 where
  pub loadable : IsLoadable (outline_of (finished c))
  pub holds_tls : HoldsTls (outline_of (finished c))
  pub named : length c.names ≡ length c.symbols
  pub symbols : (k : ℕ) → 0 < k → k ≤ length c.symbols → IsRightSymbol c k
  pub relocations : All (IsRightRelocation c) c.relocations
  pub rising : AreRising c.relocations
  pub flagged : c.is_flagged ≡ true → c.kind ≡ file.Module

-- What the numbers of a symbol table entry stand for (gABI, "Symbol Table"), and the one name that a linker knows.
use Rattle.std.specs.Prelude.{◌==◌, ℕ, Bool, true, false, List, codes, if◌then◌else◌}
use Rattle.elf_records.specs.declared.symbol.SymbolBinding.{SymbolBinding}
use Rattle.elf_records.specs.declared.symbol.SymbolBinding.TheVariants.{Local, Global, Weak}
use Rattle.elf_records.specs.declared.symbol.SymbolType.{SymbolType}
use Rattle.elf_records.specs.declared.symbol.SymbolType.TheVariants.{NoType, Object, Func, Section, File, Tls}
use Rattle.elf_records.specs.declared.symbol.TheConstants.{STB_LOCAL, STB_GLOBAL, STB_WEAK, STT_NOTYPE, STT_OBJECT}
use Rattle.elf_records.specs.declared.symbol.TheConstants.{STT_FUNC, STT_SECTION, STT_FILE, STT_TLS, STV_DEFAULT}
use Rattle.elf_records.specs.declared.symbol.TheConstants.{STV_INTERNAL, STV_HIDDEN, STV_PROTECTED}
use Rattle.elf_records.specs.declared.symbol.Visibility.{Visibility}
use Rattle.elf_records.specs.declared.symbol.Visibility.TheVariants.{Default, Internal, Hidden, Protected}

-- the name of the function of the run time, which no object defines (Drepper, section 3.4)
abbrev pub get_address : List ℕ
get_address = codes "__tls_get_addr"

-- the binding, the type and the visibility with these numbers; a number without one here counts as the last of its list
abbrev pub binding_numbered : ℕ → SymbolBinding
binding_numbered n = if n == STB_LOCAL then Local else if n == STB_GLOBAL then Global else Weak

abbrev pub type_numbered : ℕ → SymbolType
type_numbered n =
    if n == STT_NOTYPE then NoType else
    if n == STT_OBJECT then Object else
    if n == STT_FUNC then Func else
    if n == STT_SECTION then Section else
    if n == STT_FILE then File else
    Tls

abbrev pub visibility_numbered : ℕ → Visibility
visibility_numbered n = if n == STV_DEFAULT then Default else if n == STV_INTERNAL then Internal else if n ==
    STV_HIDDEN then Hidden else Protected

-- the numbers of a binding, of a type and of a visibility
abbrev pub binding_number : SymbolBinding → ℕ
binding_number Local = STB_LOCAL
binding_number Global = STB_GLOBAL
binding_number Weak = STB_WEAK

abbrev pub type_number : SymbolType → ℕ
type_number NoType = STT_NOTYPE
type_number Object = STT_OBJECT
type_number Func = STT_FUNC
type_number Section = STT_SECTION
type_number File = STT_FILE
type_number Tls = STT_TLS

abbrev pub visibility_number : Visibility → ℕ
visibility_number Default = STV_DEFAULT
visibility_number Internal = STV_INTERNAL
visibility_number Hidden = STV_HIDDEN
visibility_number Protected = STV_PROTECTED

abbrev pub is_tls : SymbolType → Bool
is_tls Tls = true
is_tls kind = false

-- whether code of other images may name a symbol
abbrev pub is_visible : Visibility → Bool
is_visible Default = true
is_visible Protected = true
is_visible visibility = false

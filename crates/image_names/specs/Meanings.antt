-- The table that code keeps of an image's names.
use Rattle.std.specs.Prelude.{◌≡◌, ℕ, Bool, List, drop, Option, Some, None, option_and_then, slice_get}
use Rattle.std.specs.Prelude.{if◌then◌else◌}
use Rattle.std.specs.Borrow.{Bor}
use Rattle.std.specs.List.{list_any, position_from}
use Rattle.std.specs.Map.{lookup}
use Rattle.std.specs.Option.{option_map, option_or, unwrap_or}
use Rattle.std.specs.Str.{bytes_eq}
use Rattle.indexmap.specs.IndexMap.{insert_entry}
use Rattle.image_file.specs.declared.symbol.ImageSymbol.{ImageSymbol}
use Rattle.image_file.specs.Spelled.{Part, Spelled}
use Rattle.image_names.specs.declared.meaning.Meaning.{Meaning}
use Rattle.image_names.specs.declared.meaning.Meaning.TheVariants.{Function, Other, Variable}
use Rattle.image_names.specs.declared.variable.Variable.{Variable as TlsVariable}
use Rattle.image_names.specs.Functions.{runs_at}
use Rattle.elf_records.specs.Symbols.{is_tls}

-- the meaning of a defined symbol
abbrev pub defined_meaning : List Part → ImageSymbol → Meaning
defined_meaning parts symbol =
    if is_tls symbol.kind then Variable (record { offset = symbol.value }) else
    if list_any (runs_at symbol.value) parts then Function symbol.value else
    Other

-- the meaning of a symbol
abbrev pub meaning_of : List Part → ImageSymbol → Meaning
meaning_of parts symbol = if symbol.is_defined then defined_meaning parts symbol else Other

-- where the function begins, if the symbol is one
abbrev pub function_of : Meaning → Option ℕ
function_of (Function address) = Some address
function_of (Variable variable) = None
function_of Other = None

-- the thread-local variable, if the symbol is one
abbrev pub variable_of : Meaning → Option TlsVariable
variable_of (Function address) = None
variable_of (Variable variable) = Some variable
variable_of Other = None

-- the meaning of the symbol of a number
abbrev pub meaning_at : Spelled → Option ℕ → Option Meaning
meaning_at image number =
    option_map (meaning_of image.parts) (option_and_then (slice_get image.symbols) number)

-- the first symbol with a name, from a number on
abbrev pub first_from : Spelled → ℕ → List ℕ → Option ℕ
first_from image n name = position_from (bytes_eq name) n (drop n image.names)

-- the meaning of the first symbol with a name
abbrev pub meaning_in : Spelled → List ℕ → Option Meaning
meaning_in image name = meaning_at image (first_from image 1 name)

-- borrowed names, and their meanings
abbrev pub Meanings : Type 0
Meanings = List (Bor (List ℕ) × Meaning)

-- the meaning that such a table has for a name
abbrev pub told : Meanings → List ℕ → Option Meaning
told meanings name = lookup (λ k. bytes_eq name k.now) meanings

-- the table has for each name the meaning of its first symbol
abbrev pub Tells : Spelled → Meanings → Type 0
Tells image meanings = (name : List ℕ) → told meanings name ≡ meaning_in image name

-- it does so for the symbols from a number on
abbrev pub TellsWith : Spelled → ℕ → Meanings → Type 0
TellsWith image n meanings = (name : List ℕ)
    → option_or (told meanings name) (meaning_at image (first_from image n name)) ≡ meaning_in image name

-- the test that tells names apart
abbrev pub same_names : Bor (List ℕ) → Bor (List ℕ) → Bool
same_names x y = bytes_eq x.now y.now

-- the table after a name got this meaning, unless it had one
abbrev pub noted : Meanings → Bor (List ℕ) → Meaning → Meanings
noted meanings name meaning = insert_entry same_names meanings name (unwrap_or (told meanings name.now) meaning)

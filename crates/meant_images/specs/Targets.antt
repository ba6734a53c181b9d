-- The variable that a sequence names, as far as it is known before there is an instance.
use Rattle.std.specs.Prelude.{◌≡◌, ◌<◌, ◌≤◌, ◌^◌, ℕ, List, length, unwrap_or, option_and_then}
use Rattle.link_faults.specs.declared.symbol_ref.SymbolRef.{SymbolRef}
use Rattle.link_needs.specs.Linking.{Linking, binding}
use Rattle.meant_images.specs.declared.targets.Target.{Target}
use Rattle.meant_images.specs.declared.targets.Target.TheVariants.{Unknown, OwnBlock, Own, Shared}
use Rattle.sequence_forms.specs.declared.places.Site.{Site}
use Rattle.sequence_match.specs.Sites.{first_of}
use Rattle.thread_blocks.specs.Turns.{at_number}
use Rattle.whole_meaning.specs.Code.{Variable, definition_number, no_variable, shared_by, variable_by, variable_for}

-- the symbol has a number that no other symbol has
pub record HasNumber (found : SymbolRef) : Type 0 where
  pub object : found.object < 2 ^ 32
  pub symbol : found.symbol < 2 ^ 24

abbrev pub HasFewObjects : Linking → Type 0
HasFewObjects l = length l.objects < 2 ^ 32

abbrev pub IsNumbered : Target → Type 0
IsNumbered Unknown = Unit {0}
IsNumbered OwnBlock = Unit {0}
IsNumbered (Own found offset) = HasNumber found
IsNumbered (Shared k found offset) = (k ≤ 64) × HasNumber found

-- the variable that the code of an instance of an image names
abbrev pub variable_seen : ℕ → ℕ → Target → Variable
variable_seen image number Unknown = no_variable
variable_seen image number OwnBlock = record { target = number; offset = 0; symbol = 0 }
variable_seen image number (Own found offset) =
    record { target = number; offset = offset; symbol = definition_number image found }
variable_seen image number (Shared k found offset) =
    record { target = k; offset = offset; symbol = definition_number k found }

-- the variable that a startup image exports under a name
abbrev pub IsShared : List Linking → ℕ → List ℕ → Target → Type 0
IsShared ls k name target = (image number : ℕ)
    → variable_seen image number target ≡ unwrap_or (option_and_then (shared_by name k) (at_number ls k)) no_variable

-- the variable that a sequence's symbol is bound to
abbrev pub IsBound : List Linking → Linking → ℕ → Site → Target → Type 0
IsBound ls l o site target = (image number : ℕ)
    → variable_seen image number target
    ≡ unwrap_or (variable_by ls image number l o site (binding l o (first_of site))) no_variable

-- the variable that a sequence names
abbrev pub IsTarget : List Linking → Linking → ℕ → Site → Target → Type 0
IsTarget ls l o site target = (image number : ℕ)
    → variable_seen image number target ≡ unwrap_or (variable_for ls image number l o site site.form) no_variable

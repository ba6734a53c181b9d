-- What a question about names asks: of a relocation, and of a symbol in the roles in which relocations name it.
use Rattle.std.specs.Prelude.{◌≡◌, ◌<◌, ◌&&◌, ℕ, Bool, true, false, List, Option, Some, None, is_none, length}
use Rattle.elf_records.specs.declared.relocation_row.SymbolRole.{SymbolRole}
use Rattle.elf_records.specs.declared.relocation_row.SymbolRole.TheVariants.{NoSymbol, Ordinary, OwnVariable}
use Rattle.elf_records.specs.declared.relocation_row.SymbolRole.TheVariants.{AnyVariable}
use Rattle.elf_records.specs.RelocationRows.{is_any_variable, is_named, is_variable}
use Rattle.elf_object.specs.declared.noted.Roles.{Roles}
use Rattle.link_faults.specs.declared.binding.Binding.{Binding}
use Rattle.link_faults.specs.declared.fault.LinkFaultKind.{LinkFaultKind}
use Rattle.link_faults.specs.declared.fault.LinkFaultKind.TheVariants.{Undefined, NotTls}
use Rattle.tls_symbols.specs.declared.charges.NameQuestion.{NameQuestion}
use Rattle.tls_symbols.specs.declared.uses.Use.{Use}
use Rattle.tls_symbols.specs.Bindings.{bound_to, is_tls_binding, object_at}
use Rattle.tls_symbols.specs.Faults.{differ, is_faulty, NamesWithin}
use Rattle.tls_symbols.specs.Known.{IsKnown}
use Rattle.tls_symbols.specs.Searches.{Passes}

-- whether a binding does not suit a role: one of the two is thread-local, and the other isn't
abbrev pub is_unsuited : List (List ℕ) → SymbolRole → Option Binding → Bool
is_unsuited objects role None = false
is_unsuited objects role (Some binding) = differ (is_variable role) (is_tls_binding objects binding)

-- whether what a symbol is bound to is a fault of this kind, in this role
abbrev pub is_wrong : LinkFaultKind → List (List ℕ) → SymbolRole → Option Binding → Bool
is_wrong Undefined objects role bound = is_none bound
is_wrong NotTls objects role bound = is_unsuited objects role bound
is_wrong kind objects role bound = false

-- whether symbol e of object o has this fault in this role
abbrev pub is_charged_as : LinkFaultKind → List (List ℕ) → List (List (List ℕ)) → ℕ → ℕ → SymbolRole → Bool
is_charged_as kind objects startup o e role =
    is_named role && is_wrong kind objects role (bound_to objects startup o e (is_any_variable role))

abbrev pub has_role : Roles → SymbolRole → Bool
has_role roles NoSymbol = false
has_role roles Ordinary = roles.ordinary
has_role roles OwnVariable = roles.own_variable
has_role roles AnyVariable = roles.any_variable

-- symbol e of object o has the fault that is asked for in none of these roles
abbrev pub IsClear : NameQuestion → ℕ → ℕ → Roles → Type 0
IsClear q o e roles =
    (role : SymbolRole) → has_role roles role ≡ true
    → is_charged_as q.kind q.names.now.objects.now q.names.now.startup.now o e role ≡ false

-- the relocations that a question is about
abbrev pub IsAbout : NameQuestion → Use → Type 0
IsAbout q u = Passes (is_faulty q.kind q.names.now.objects.now q.names.now.startup.now) u

-- the question may be asked about a relocation
pub record IsAsked (q : NameQuestion) (u : Use) : Type 0 where
  pub known : IsKnown q.names.now
  pub object : u.place.object < length q.names.now.objects.now
  pub symbol : NamesWithin (object_at q.names.now.objects.now u.place.object) u.relocation

-- it may be asked about object o
pub record IsAskedIn (q : NameQuestion) (o : ℕ) (b : List ℕ) : Type 0 where
  pub known : IsKnown q.names.now
  pub object : o < length q.names.now.objects.now
  pub here : b ≡ object_at q.names.now.objects.now o

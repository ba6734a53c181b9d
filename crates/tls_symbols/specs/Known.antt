-- What is kept of the names of an image, and what it says by their numbers.
use Rattle.std.specs.Prelude.{◌==◌, ℕ, Bool, List, Option, Some, None, map, if◌then◌else◌}
use Rattle.std.specs.Option.{option_or}
use Rattle.link_faults.specs.declared.binding.Binding.{Binding}
use Rattle.link_faults.specs.declared.binding.Binding.TheVariants.{Runtime}
use Rattle.tls_symbols.specs.declared.image_names.ImageNames.{ImageNames}
use Rattle.link_faults.specs.declared.symbol_ref.SymbolRef.{SymbolRef}
use Rattle.tls_symbols.specs.Bindings.{here_or, of_startup}
use Rattle.tls_symbols.specs.Numbers.{KnowsNames, at_number}

abbrev pub IsKnown : ImageNames → Type 0
IsKnown n =
    KnowsNames n.objects.now n.startup.now n.numbers.names.keys (map (λ own. own.items) n.numbers.symbols.items)
    n.strong.items n.weak.items n.imported.items

-- by the number of a name: its definition, the first startup image that exports it, and its binding
abbrev pub definition_at : ImageNames → ℕ → Option SymbolRef
definition_at n number = option_or (at_number n.strong.items number) (at_number n.weak.items number)

abbrev pub imported_at : ImageNames → ℕ → Option Binding
imported_at n number = of_startup (at_number n.imported.items number)

abbrev pub binding_at : ImageNames → ℕ → Bool → Option Binding
binding_at n number imports =
    if number == 0 then Some Runtime else
    here_or (definition_at n number) (if imports then imported_at n number else None)

-- what contracts see of bindings: what they depend on
pub record Resolved : Type 0 where
  -- the image's objects
  pub objects : List (List ℕ)
  -- the names that each startup image exports, in image order
  pub startup : List (List (List ℕ))

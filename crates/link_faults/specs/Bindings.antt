-- What a symbol is bound to.
use Rattle.std.specs.Prelude.{Bool, true, false, Option, Some}
use Rattle.link_faults.specs.declared.binding.Binding.{Binding}
use Rattle.link_faults.specs.declared.binding.Binding.TheVariants.{Here}

-- whether it is a symbol of the image itself
abbrev pub is_here : Option Binding → Bool
is_here (Some (Here found)) = true
is_here bound = false

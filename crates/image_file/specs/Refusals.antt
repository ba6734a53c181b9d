-- What a refusal to read says of the bytes.
use Rattle.std.specs.Prelude.{ℕ, List}
use Rattle.image_rules.specs.declared.fault.ImageFault.{ImageFault}
use Rattle.image_rules.specs.declared.fault.ImageFault.TheVariants.{OutOfMemory, At}
use Rattle.image_faults.specs.Faults.{IsFirstFault}

-- the first fault; nothing when memory runs out
abbrev pub IsRefusal : List ℕ → ImageFault → Type 0
IsRefusal b OutOfMemory = Unit {0}
IsRefusal b (At offset kind) = IsFirstFault b offset kind

use Rattle.std.proofs.Common.{◌≡◌, drop}
use Rattle.std.specs.List.{find}
use Rattle.loaded_modules.specs.Loader.{holds}
use Rattle.loaded_modules.proofs.blocks.initial_part.Given as goal

-- the parts that are left decide
abbrev pub invariant-loop-number : goal.invariant-loop-number
invariant-loop-number l = find (holds l.tls) (drop l.number l.image.parts) ≡ find (holds l.tls) l.image.parts

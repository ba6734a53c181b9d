-- The images so far.
use Rattle.std.proofs.Common.{◌≡◌, ◌+◌, ◌∷◌, take, vec_len}
use Rattle.module_table.specs.Modules.{no_module}
use Rattle.module_table.specs.Past.{first_modules}
use Rattle.module_table.proofs.start.first_modules.Given as goal

abbrev pub invariant-loop-info : goal.invariant-loop-info
invariant-loop-info l = (l.modules.items ≡ no_module ∷ first_modules (take l.info-index l.infos) 1)
    × (vec_len l.modules ≡ l.info-index + 1)

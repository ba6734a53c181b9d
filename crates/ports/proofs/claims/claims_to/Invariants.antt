use Rattle.std.proofs.Common.{take}
use Rattle.std.specs.List.{AllZip}
use Rattle.ports.specs.Claims.{IsFor}
use Rattle.ports.proofs.claims.claims_to.Given as goal

-- the first names have their claims
abbrev pub invariant-loop-name : goal.invariant-loop-name
invariant-loop-name g l = AllZip IsFor (take l.name-index l.names) l.claims.items

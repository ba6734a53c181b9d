use Rattle.std.proofs.Common.{sym}
use Rattle.loaded_modules.specs.Loader.{holds}
use Rattle.image_file.specs.Spelled.{lent_part}
use Rattle.loaded_modules.proofs.Left.{find_here, find_on, find_past}
use Rattle.loaded_modules.proofs.blocks.initial_part.Goals as goal
use Rattle.loaded_modules.proofs.blocks.initial_part.Goals.{in-Some+else-holds, in_default}

pub returns-then-holds : goal.returns-then-holds
returns-then-holds c =
    find_here c.args.image.now.parts c.loop-number.number (holds c.args.tls) (lent_part c.in-Some.part) _
    c.in-Some.ensures (sym c.if-holds.ensures) c.loop-number.invariant

pub loop-number-preserved : goal.loop-number-preserved
loop-number-preserved c = elim c.match-part.branch [
  | in-Some+else-holds w ↦ find_on c.args.image.now.parts c.loop-number.number (holds c.args.tls)
      (lent_part w.in-Some.part) _
      w.in-Some.ensures (sym w.if-holds.ensures) c.loop-number.invariant
  | in_default w ↦ find_past c.args.image.now.parts c.loop-number.number
      (holds c.args.tls) _ w.in_default.ensures c.loop-number.invariant
]

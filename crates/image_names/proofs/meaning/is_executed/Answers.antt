use Rattle.std.proofs.Common.{sym}
use Rattle.std.specs.List.{list_any}
use Rattle.image_names.specs.Functions.{runs_at}
use Rattle.image_file.specs.Spelled.{lent_part}
use Rattle.image_names.proofs.Finding.{any_here, any_on, none_on}
use Rattle.image_names.proofs.meaning.is_executed.Goals as goal
use Rattle.image_names.proofs.meaning.is_executed.Goals.{in-Some+else-runs_at, in_default}

pub returns-then-runs_at : goal.returns-then-runs_at
returns-then-runs_at c =
    any_here c.args.image.now.parts c.loop-number.number (runs_at c.args.address) (lent_part c.in-Some.part) _
    c.in-Some.ensures (sym c.if-runs_at.ensures) c.loop-number.invariant

pub loop-number-preserved : goal.loop-number-preserved
loop-number-preserved c = elim c.match-part.branch [
  | in-Some+else-runs_at w ↦ any_on c.args.image.now.parts c.loop-number.number (runs_at c.args.address)
      (lent_part w.in-Some.part) _
      w.in-Some.ensures (sym w.if-runs_at.ensures) c.loop-number.invariant
  | in_default w ↦ none_on c.args.image.now.parts c.loop-number.number
      (list_any (runs_at c.args.address)) _ w.in_default.ensures c.loop-number.invariant
]

-- One more line is limited, and the tally is right.
use Rattle.std.proofs.Common.{◌≡◌, ◌<◌, ◌∙◌, ◌||◌, [], length, arith}
use Rattle.std.specs.Prelude.{slice_index_or}
use Rattle.job_changes.specs.Fuel.{IsLimited, has_fuel}
use Rattle.job_changes.proofs.Limits.{else_said, front_more, rest_less, said_more, then_said}
use Rattle.job_changes.proofs.job_lines.JobLines.limit_lines.Goals.{then-branch, else-branch}
use Rattle.job_changes.proofs.job_lines.JobLines.limit_lines.Goals as goal

pub loop-number-preserved : goal.loop-number-preserved
loop-number-preserved c =
    let first = c.args.self.now in
    let now = c.loop-number.self in
    let next = c.limit_line.new.self in
    let n = c.loop-number.number in
    let kept = c.loop-number.invariant in
    let here : IsLimited c.args.most (slice_index_or now n []) (slice_index_or next n []) =
    c.in_ok-limit_line.ensures.limited in
    let gives : c.in_ok-limit_line.field-0 ≡ has_fuel (slice_index_or now n []) = c.in_ok-limit_line.ensures.gives in
    let low : n < length first = omega arith in
    let said : c.if-branch.is_said ≡ (c.loop-number.is_said || c.in_ok-limit_line.field-0) =
    elim c.if-branch.branch [
      | then-branch w ↦ then_said c.loop-number.is_said c.if-branch.is_said c.in_ok-limit_line.field-0 w.if-branch.true w.is_said-is
      | else-branch w ↦ else_said c.loop-number.is_said c.if-branch.is_said c.in_ok-limit_line.field-0 w.if-branch.false w.is_said-is
    ] in (
      c.limit_line.ensures.count ∙ kept.0,
      front_more c.args.most first now next n kept.1 kept.2 here c.limit_line.ensures.others,
      rest_less c.args.most first now next n kept.2 c.limit_line.ensures.others,
      said_more first now n c.loop-number.is_said c.if-branch.is_said c.in_ok-limit_line.field-0 low kept.3 gives
          (kept.2 n (omega arith)) said,
    )

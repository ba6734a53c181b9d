use Rattle.std.proofs.Common.{ℕ, None, subst}
use Rattle.sequence_match.specs.Finding.{IsLeastBelow, IsStrayIn}
use Rattle.sequence_match.proofs.Found.{least_more}
use Rattle.sequence_match.proofs.Seconds.{none_where_false}
use Rattle.sequence_match.proofs.finding.stray_up_to.Goals as goal

pub returns-in-None-2 : goal.returns-in-None-2
returns-in-None-2 c =
    let P : ℕ → Type 0 = IsStrayIn c.args.code.now in
    let before = subst (IsLeastBelow P c.args.entry) c.in-None.is c.requires.before in
    least_more P c.args.entry None before (none_where_false _ _ c.is_stray.ensures c.if-is_stray.false)

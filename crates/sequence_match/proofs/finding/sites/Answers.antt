use Rattle.std.proofs.Common.{sym, subst}
use Rattle.object_rules.specs.declared.fault.FaultKind.TheVariants.{Sequence, StrayCall}
use Rattle.object_rules.specs.declared.fault.ObjectFault.{ObjectFault}
use Rattle.sequence_match.specs.Faults.{IsFault}
use Rattle.sequence_match.proofs.Surveys.{first_at, loose_fault, nowhere_of, stray_fault}
use Rattle.sequence_match.proofs.finding.sites.Goals as goal

pub returns-in-Some-clause-fault : goal.returns-in-Some-clause-fault
returns-in-Some-clause-fault c =
    let b = c.args.object.now in
    let F : ObjectFault → Type 0 = λ fault. IsFault b fault in
    subst F (sym c.fault.ensures)
    (loose_fault b c.in-Some.spot
    (first_at Sequence b c.in_ok-found.found.loose c.in-Some.spot c.in-Some.is c.in_ok-found.ensures.loose))

pub returns-in-Some-stray-clause-fault : goal.returns-in-Some-stray-clause-fault
returns-in-Some-stray-clause-fault c =
    let b = c.args.object.now in
    let F : ObjectFault → Type 0 = λ fault. IsFault b fault in
    subst F (sym c.fault-in-Some-stray.ensures)
    (stray_fault b c.in-Some-stray.spot
    (nowhere_of Sequence b c.in_ok-found.found.loose c.in_default.is c.in_ok-found.ensures.loose)
    (first_at StrayCall b c.in_ok-found.found.stray c.in-Some-stray.spot c.in-Some-stray.is c.in_ok-found.ensures.stray))

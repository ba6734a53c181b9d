use Rattle.sequence_match.specs.Code.{Names}
use Rattle.sequence_match.proofs.Calls.{call_found, call_missing}
use Rattle.sequence_match.proofs.matching.has_call.Goals as goal

pub returns-in-Some : goal.returns-in-Some
returns-in-Some c =
    let code = c.args.code.now in
    call_found code.relocations.now c.requires.ready.apart c.args.second
    (Names code.getters.now) c.args.start c.in-Some.entry _ _ c.in-Some.ensures.0
    c.relocation_at.ensures c.calls.ensures

pub returns-in-None : goal.returns-in-None
returns-in-None c =
    let code = c.args.code.now in (
      λ t. absurd (cc),
      λ h. absurd (call_missing code.relocations.now c.requires.ready.apart c.args.second
          (Names code.getters.now) c.args.start c.in-None.ensures h),
    )

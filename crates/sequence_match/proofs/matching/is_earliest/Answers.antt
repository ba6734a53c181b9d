use Rattle.std.proofs.Common.{Option, rules, subst}
use Rattle.sequence_match.specs.declared.matching.Indexes.{Indexes}
use Rattle.sequence_match.specs.Code.{AreOrdered}
use Rattle.sequence_match.proofs.Calls.{call_earliest, call_there, field_earliest}
use Rattle.sequence_match.proofs.Nearby.{rises_earliest}
use Rattle.sequence_match.proofs.matching.is_earliest.Goals as goal

pub returns-in_default : goal.returns-in_default
returns-in_default c =
    let xs = c.args.code.now.relocations.now in
    let O : Option Indexes → Type 0 = λ indexes. AreOrdered xs indexes in (
      λ t. rises_earliest xs (subst O c.in_default.is c.requires.ready.ordered) c.args.entry c.args.relocation.now c.requires.entry,
      λ h. (search rules),
    )

pub returns-in-Some-call_at : goal.returns-in-Some-call_at
returns-in-Some-call_at c =
    call_earliest c.args.code.now.relocations.now c.args.entry c.args.relocation.now c.requires.entry c.in-TlsDescCall.is c.in-Some-call_at.first
    c.in-Some-call_at.ensures

pub returns-in-None : goal.returns-in-None
returns-in-None c = (
  λ t. absurd (cc),
  λ h. absurd (call_there c.args.code.now.relocations.now c.args.entry c.args.relocation.now c.requires.entry c.in-TlsDescCall.is c.in-None.ensures),
)

pub returns-in_default-kind : goal.returns-in_default-kind
returns-in_default-kind c = (
  λ t. field_earliest c.args.code.now.relocations.now c.args.entry c.args.relocation.now c.requires.ready.apart c.requires.entry c.requires.kind
      c.in_default-kind.not-TlsDescCall,
  λ h. (search rules),
)

use Rattle.std.proofs.Common.{ap, ◌∙◌}
use Rattle.job_text.specs.Drafts.{slot_of}
use Rattle.job_text.proofs.DraftLemmas.{if_found}
use Rattle.job_text.proofs.draft.Draft.slot_of.Goals as goal

pub returns-clause-slot : goal.returns-clause-slot
returns-clause-slot c =
    let d = c.args.self.now in
    if_found c.copied.result d.program d.starts d.lates c.args.name.now
    (c.copied.ensures ∙ c.get.ensures.value ∙ c.self.invariant.slots c.args.name.now
    ∙ ap (λ d. slot_of d c.args.name.now) c.self.view_is)

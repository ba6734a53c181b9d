use Rattle.std.proofs.Common.{◌∙◌, ap}
use Rattle.link_needs.specs.Linking.{Linking, layout}
use Rattle.link_tables.specs.FaultLaws.{names_in, symbols_in}
use Rattle.link_core.specs.Images.{file_kind, tls_part}
use Rattle.link_core.proofs.LinkDrafts.{drafted}
use Rattle.link_core.proofs.draft.draft_of.Goals as goal

pub returns-clause-contents : goal.returns-clause-contents
returns-clause-contents c =
    drafted c.args.inputs.now c.file_kind.result c.as_slice.result.now c.args.lists.now.got c.tls_part.result
    c.as_slice-2.result.now c.as_slice-3.result.now c.is_flagged.result
    (c.file_kind.ensures ∙ ap (λ (l : Linking). file_kind l.kind) c.inputs.view_is)
    (c.as_slice.ensures.value ∙ c.requires.parts) c.requires.got
    (c.tls_part.ensures ∙ ap tls_part (c.inputs.invariant.placed ∙ ap layout c.inputs.view_is))
    (ap symbols_in c.as_slice-2.ensures.value ∙ c.requires.symbols)
    (ap names_in c.as_slice-2.ensures.value ∙ c.requires.names)
    (c.as_slice-3.ensures.value ∙ c.requires.relocations) c.is_flagged.ensures

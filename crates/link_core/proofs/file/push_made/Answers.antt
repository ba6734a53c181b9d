use Rattle.std.proofs.Common.{◌+◌, ◌∙◌, ◌++◌, length, ap}
use Rattle.link_core.specs.Laying.{stub_behind}
use Rattle.link_core.proofs.WritingParts.{made_pushed, on_ok_then}
use Rattle.link_core.proofs.file.push_made.Goals as goal

pub returns : goal.returns
returns c =
    let l = c.args.plan.now in
    let start = c.args.start in
    on_ok_then c.push_stub.result (λ e.
    e
    ∙ ap (λ items. items ++ stub_behind l (start + length items)) c.in_ok-push_got.ensures
    ∙ made_pushed l start c.args.bytes.now.items)
    c.push_stub.ensures

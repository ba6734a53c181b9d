use Rattle.std.proofs.Common.{◌+◌, ◌∙◌, ◌++◌, ◌∷◌, ℕ, List, [], sym, ap, subst, arith}
use Rattle.sequence_match.specs.declared.index.Span.{Span}
use Rattle.sequence_match.specs.Code.{AreSpans}
use Rattle.sequence_match.proofs.Spans.{spans_more, spans_same}
use Rattle.sequence_match.proofs.index.spans_of.Goals as goal
use Rattle.sequence_match.proofs.index.spans_of.Goals.{then-width-gt0+in_ok-push, else-width-gt0}

pub loop-entry-preserved : goal.loop-entry-preserved
loop-entry-preserved c =
    let n = c.loop-entry.entry in
    let xs = c.args.relocations.now in
    let x = c.at-relocation.result in
    let entry = c.at-relocation.ensures in
    let P : List Span → Type 0 = λ spans. AreSpans c.args.reach xs (n + 1) spans in
    let span : ℕ → Span = λ width. record { offset = x.offset; width = width; entry = n } in
    elim c.if-width-gt0.branch [
      | then-width-gt0+in_ok-push w ↦
          subst P
          (sym (ap (λ v. v.items) w.spans-is ∙ w.in_ok-push.ensures.items
          ∙ ap (λ width. c.loop-entry.spans.items ++ span width ∷ []) c.width-width.ensures.width))
          (spans_more c.args.reach xs n c.loop-entry.spans.items c.loop-entry.invariant x entry
          (omega (arith, w.if-width-gt0.true, c.width-width.ensures.width)))
      | else-width-gt0 w ↦
          subst P (sym (ap (λ v. v.items) w.spans-is))
          (spans_same c.args.reach xs n c.loop-entry.spans.items c.loop-entry.invariant x entry
          (omega (arith, w.if-width-gt0.false, c.width-width.ensures.width)))
    ]

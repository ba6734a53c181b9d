use Rattle.std.proofs.Common.{◌∙◌, ◌++◌, ◌∷◌, [], sym, ap, arith, take}
use Rattle.thread_space.proofs.Entries.{image_after, one_more, none_there}
use Rattle.thread_space.proofs.names.names_of.Goals as goal
use Rattle.thread_space.proofs.names.names_of.Goals.{in-Some+in_ok-new+in_ok-push, in_default}

pub loop-index-preserved : goal.loop-index-preserved
loop-index-preserved c =
    let m = c.args.modules.now in
    let i = c.loop-index.index in elim c.match-image.branch [
      | in-Some+in_ok-new+in_ok-push w ↦
          ap (λ v. v.items) w.names-is ∙ w.in_ok-push.ensures.items
          ∙ ap (λ xs. xs ++ w.in_ok-new.field-0 ∷ []) c.loop-index.invariant
          ∙ ap (λ x. take i m.images ++ x ∷ []) w.in_ok-new.ensures
          ∙ sym (one_more m.images i w.in-Some.image.now (image_after m i ∙ sym w.in-Some.ensures))
      | in_default w ↦ absurd (none_there m.images i (image_after m i ∙ sym w.in_default.ensures)
          (omega (arith, c.loop-index-test.true, c.image_count-index-end.ensures.value)))
    ]

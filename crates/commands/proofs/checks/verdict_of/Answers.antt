use Rattle.std.proofs.Common.{◌∙◌, ◌≤◌, List, length, map, subst, sym}
use Rattle.job_text.specs.LateImages.{LateLast}
use Rattle.link_needs.specs.Linking.{Linking}
use Rattle.meant_images.specs.Images.{AreSound}
use Rattle.commands.proofs.Ready.{are_sound, few_linked, late, some_linked}
use Rattle.commands.proofs.checks.verdict_of.Goals as goal

pub new-requires-clause-some : goal.new-requires-clause-some
new-requires-clause-some c =
    let (images, are) = c.requires in
    subst (λ (ls : List Linking). 1 ≤ length ls) (sym (c.as_slice.ensures.value ∙ c.in_ok-inputs.ensures))
    (some_linked c.args.job.now images c.args.ready.items are)

pub new-requires-clause-few : goal.new-requires-clause-few
new-requires-clause-few c =
    let (images, are) = c.requires in
    subst (λ (ls : List Linking). length ls ≤ 64) (sym (c.as_slice.ensures.value ∙ c.in_ok-inputs.ensures))
    (few_linked c.args.job.now images c.args.ready.items are)

pub new-requires-clause-late : goal.new-requires-clause-late
new-requires-clause-late c =
    let (images, are) = c.requires in
    subst (λ (ls : List Linking). LateLast (map (λ l. l.kind) ls))
    (sym (c.as_slice.ensures.value ∙ c.in_ok-inputs.ensures)) (late c.args.job.now images c.args.ready.items are)

pub new-requires-clause-sound : goal.new-requires-clause-sound
new-requires-clause-sound c =
    let (images, are) = c.requires in
    subst AreSound (sym (c.as_slice.ensures.value ∙ c.in_ok-inputs.ensures))
    (are_sound c.args.job.now images c.args.ready.items are)

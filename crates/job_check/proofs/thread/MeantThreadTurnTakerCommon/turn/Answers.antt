use Rattle.std.proofs.Common.{◌≡◌, ◌∙◌, ◌<◌, ◌^◌, None, sym, ap, subst, arith}
use Rattle.thread_blocks.specs.Instances.{instances_in}
use Rattle.marked_memory.specs.declared.space.Wanted.TheVariants.{Fixed}
use Rattle.marked_memory.specs.Kept.{Kept}
use Rattle.marked_memory.specs.Spaces.{with_held}
use Rattle.job_check.specs.Histories.{infos_of}
use Rattle.job_check.specs.Lines.{CanBegin}
use Rattle.job_check.specs.Standing.{GoesOn, Run, TakesTurn, emptied, run_after}
use Rattle.job_check.specs.Threads.{run_of}
use Rattle.job_check.proofs.WholeTurns.{can_begin, goes_on, look_at}
use Rattle.job_check.proofs.thread.MeantThreadTurnTakerCommon.turn.Goals as goal

pub go_on-requires-clause-ready : goal.go_on-requires-clause-ready
go_on-requires-clause-ready c =
    let p = c.args.shared.now.table in
    let room : p.seen < 2 ^ 61 = omega (arith, c.seen.ensures, c.if-seen-ge-MOST_EVENTS.false) in
    subst (λ (k : Kept). CanBegin k p) (sym c.lend.ensures)
    (can_begin c.replace-handed.result.items c.self.inside.space p c.see.new.space c.in_ok-see.ensures room)

pub returns : goal.returns
returns c =
    let r : Run = run_of c.self.inside in
    let y : Run = run_of c.self-2.inside in
    let p = c.args.shared.now.table in
    let d = c.args.shared.now.ranges.items in
    let p' = c.go_on.new.table in
    let d' = c.in_ok-shared.field-0.items in
    let taken = c.in_ok-taken.taken in
    let looked : c.lend.new.self ≡ look_at r.kept p d = c.lend.ensures
    ∙ ap (λ (k : Kept). record k { lent = None }) (c.in_ok-see.ensures.is
    ∙ ap (λ xs. with_held (instances_in (infos_of r.kept.images) p) xs Fixed r.kept)
    (ap (λ v. v.items) c.replace-handed.ensures.value)) in
    let goes = subst (λ (z : Run). GoesOn r.call (record r { kept = look_at r.kept p d }) p taken z p')
    (sym c.self-2.view_is)
    (subst (λ (k : Kept). GoesOn r.call
    (record r { kept = k }) p taken c.go_on.new.self p') looked c.in_ok-taken.ensures) in
    let ends : c.end.new.self ≡ run_after (emptied y) taken = c.end.ensures
    ∙ ap (λ (k : Kept). run_after (record y { kept = k }) taken) c.in_ok-shared.ensures.blocks in
    subst (λ (x : Run). TakesTurn x p d c.end.new.self p' d') c.self.view_is
    (subst (λ (x : Run). TakesTurn r p d x p' d') (sym ends)
    (subst (λ xs. TakesTurn r p d (run_after (emptied y) taken) p' xs) (sym c.in_ok-shared.ensures.taken)
    (goes_on r p d taken r.call y p' goes)))

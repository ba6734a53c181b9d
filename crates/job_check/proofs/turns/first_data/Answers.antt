use Rattle.std.proofs.Common.{◌∙◌, List, [], ◌∷◌, None, append-nil, get_or, sym, ap, subst}
use Rattle.job_meaning.specs.declared.values.Byte.{Byte}
use Rattle.loaded_modules.specs.declared.instance.Instance.{Instance}
use Rattle.job_check.specs.Histories.{IsLeftBy, infos_of}
use Rattle.thread_blocks.specs.Held.{Data, Owned}
use Rattle.thread_blocks.specs.Instances.{instances_in}
use Rattle.job_check.proofs.FirstTurn.{all_data, data_none, data_one, first_left, more_data}
use Rattle.job_check.proofs.turns.first_data.Goals.{in-Some+in_ok-push, in_default}
use Rattle.job_check.proofs.turns.first_data.Goals as goal

pub live_instances-requires : goal.live_instances-requires
live_instances-requires c =
    subst (IsLeftBy c.args.images.now) (sym c.requires.start) (first_left c.args.images.now c.requires.legal)

pub loop-instance-init : goal.loop-instance-init
loop-instance-init c = c.new-shared.ensures.items

pub loop-instance-preserved : goal.loop-instance-preserved
loop-instance-preserved c =
    let ls = c.args.images.now in
    let xs = c.deref-instance-items.result.now in
    let i = c.loop-instance.instance-index in
    let before = c.loop-instance.shared.items in
    let d : Instance = record { image = 0; number = 0; id = 0; offset = None } in
    let x = get_or xs i d in
    elim c.match-branch-3.branch [
      | in-Some+in_ok-push w ↦
          let made : List (Owned Byte) =
          record { owner = record { kind = Data; instance = x.number }; range = w.in-Some.range } ∷ [] in
          ap (λ v. v.items) w.shared-is ∙ w.in_ok-push.ensures.items
          ∙ more_data ls xs i d before made c.loop-instance-test.true c.loop-instance.invariant
          (sym (data_one ls x w.in-Some.range (sym c.in_ok-range.ensures ∙ w.in-Some.is)))
      | in_default w ↦
          ap (λ v. v.items) w.shared-is ∙ sym (append-nil before)
          ∙ more_data ls xs i d before [] c.loop-instance-test.true c.loop-instance.invariant
          (sym (data_none ls x (sym c.in_ok-range.ensures ∙ w.in_default.is)))
    ]

pub returns : goal.returns
returns c =
    let live = c.deref-instance-items.ensures.value ∙ c.in_ok-live.ensures
    ∙ ap (instances_in (infos_of c.args.images.now)) c.requires.start in
    all_data c.args.images.now c.deref-instance-items.result.now c.loop-instance.instance-index c.loop-instance.shared.items
    c.loop-instance-test.false live c.loop-instance.invariant

use Rattle.std.proofs.Common.{◌≡◌, ◌+◌, ◌*◌, ◌%◌, ◌^◌, arith, refl, sym, ap, ◌∙◌}
use Rattle.generated_job.specs.Generated.{value_of}
use Rattle.generated_job.proofs.Counting.{next_value}
use Rattle.generated_job.proofs.Objects.{files_known, files_more}
use Rattle.generated_job.proofs.files.generated_objects.Goals as goal

pub loop-before-init : goal.loop-before-init
unfolding value_of
loop-before-init c = (refl, c.new-files.ensures.items)

pub loop-before-preserved : goal.loop-before-preserved
loop-before-preserved c =
    let value : c.value_behind-value.result ≡ value_of c.args.count (c.loop-before.before + 1) =
    c.value_behind-value.ensures
    ∙ ap (λ v. (5 * v + 3) % 2 ^ 32) c.loop-before.invariant.0 ∙ sym (next_value c.args.count c.loop-before.before) in (
      value,
      files_more c.args.count c.loop-before.before c.value_behind-value.result _ _ _ c.loop-before.invariant.1
          c.in_ok-push.ensures.items c.in_ok-program_object.ensures value,
    )

pub returns : goal.returns
returns c =
    let all : c.loop-before.before ≡ c.args.count =
    omega (arith, c.loop-before.auto.before-end, c.loop-before-test.false) in
    files_known c.args.count c.loop-before.before _ _ _ all c.loop-before.invariant.1 c.in_ok-push-2.ensures.items c.in_ok-module_object.ensures

use Rattle.std.proofs.Common.{◌∙◌, ap}
use Rattle.std.proofs.lemmas.Result.{IfOk-weaker}
use Rattle.shared_modules.specs.Passes.{first_pass}
use Rattle.commands.proofs.Raced.{same_images}
use Rattle.commands.proofs.race_runs.history_of.Goals as goal

pub returns-clause-images : goal.returns-clause-images
returns-clause-images c =
    IfOk-weaker c.start.result _ _ (λ started is.
    is
    ∙ same_images c.in_ok-registry.registry c.args.modules.now _ _ c.in_ok-registry.ensures.infos c.infos.ensures.value c.in_ok-registry.ensures.last_offset
    c.last_offset.ensures.value) c.start.ensures.images

pub returns-clause-pass : goal.returns-clause-pass
returns-clause-pass c =
    IfOk-weaker c.start.result _ _
    (λ started is. is ∙ ap (first_pass started.0) c.in_ok-registry.ensures.events) c.start.ensures.pass

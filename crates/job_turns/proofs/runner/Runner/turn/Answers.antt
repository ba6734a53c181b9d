use Rattle.std.proofs.Common.{◌∙◌, ◌+◌, ap, length}
use Rattle.std.proofs.lemmas.Result.{IfOk-weaker}
use Rattle.loaded_modules.specs.Images.{JobImages}
use Rattle.job_turns.specs.Standing.{Run}
use Rattle.job_turns.proofs.Dataless.{first_length}
use Rattle.job_turns.proofs.OwnTurns.{own_turn}
use Rattle.job_turns.proofs.runner.Runner.turn.Goals as goal

pub turn_with-requires-clause-pieces : goal.turn_with-requires-clause-pieces
turn_with-requires-clause-pieces c =
    ap length c.in_ok-none.ensures
    ∙ first_length c.modules.result.now
    ∙ ap (λ (m : JobImages). length m.images + 1) (c.modules.ensures ∙ c.self.invariant.names)
    ∙ ap (λ (r : Run). length r.kept.vector.images.images + 1) c.self.view_is

pub returns : goal.returns
returns c =
    IfOk-weaker c.turn_with.result _ _
    (λ r takes. own_turn c.args.self r c.args.events.now _ _ c.requires.alone c.requires.going takes)
    c.turn_with.ensures.taken

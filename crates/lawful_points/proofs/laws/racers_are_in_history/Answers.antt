use Rattle.thread_blocks.specs.Lines.{event_by}
use Rattle.thread_blocks.specs.RunTime.{thread_turns}
use Rattle.lawful_points.specs.Raced.{first_of}
use Rattle.lawful_points.proofs.Fronts.{in_history}
use Rattle.lawful_points.proofs.laws.racers_are_in_history.Goals as goal

pub returns : goal.returns
returns c = λ l fuel thread own history said racer. in_history (thread_turns l thread fuel)
    (event_by l thread) history thread
    (first_of l thread own) racer.points racer.lawful

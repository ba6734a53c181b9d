use Rattle.std.proofs.Common.{refl, length}
use Rattle.std.proofs.lemmas.Option.{slice_get_read}
use Rattle.thread_turns.specs.Orders.{progress}
use Rattle.thread_turns.proofs.Orders.{going_done, going_there, takes_put}
use Rattle.thread_turns.proofs.threads.Threads.go.Goals as goal

pub returns : goal.returns
returns g c =
    let x = c.args.self.now in
    let k = c.index_of-index.result in
    let r = c.index_mut.result.now in
    let there = going_there g.T.TurnTaker.is_done g.T.TurnTaker.turned x.threads.items c.args.thread k c.index_of-index.ensures c.requires.going in
    let at = slice_get_read x.threads.items (length x.threads.items) k r refl there.1 c.index_mut.ensures.value in
    takes_put g.T.TurnTaker.is_done g.T.TurnTaker.turned (progress x) _ c.args.thread k r c.turn.new.self there.0 at
    (going_done g.T.TurnTaker.is_done g.T.TurnTaker.turned x.threads.items c.args.thread k r there.0 at c.requires.going)
    c.in_ok-turn.ensures refl

use Rattle.commands.specs.Purposes.{wanted_by}
use Rattle.commands.proofs.Asked.{asks_after, asks_job}
use Rattle.commands.proofs.Saying.{Text}
use Rattle.commands.proofs.told.told.Goals as goal

pub returns-in-Ok-clause-asks : goal.returns-in-Ok-clause-asks
returns-in-Ok-clause-asks g c =
    asks_after (g.S.Store.files c.args.store.now) c.args.name.now c.in-Ok.text.items c.as_slice.result.now
    (wanted_by c.args.purpose) (g.S.Store.asked c.args.store.now) _ _
    c.told_of_text.result c.in-Ok.ensures.asked c.in-Ok.ensures.bytes c.as_slice.ensures.value c.told_of_text.ensures.asks

pub returns-in-Err-clause-asks : goal.returns-in-Err-clause-asks
returns-in-Err-clause-asks g c =
    asks_job Text (g.S.Store.files c.args.store.now) c.args.name.now (wanted_by c.args.purpose)
    (g.S.Store.asked c.args.store.now) _ c.in-Err.fault c.in-Err.ensures.refused c.in-Err.ensures.asked

use Rattle.std.proofs.Common.{[], ◌∷◌, sym}
use Rattle.commands.proofs.Asked.{asks_any, asks_none}
use Rattle.commands.proofs.command.output.Goals as goal

pub returns-in-Run-clause-asks : goal.returns-in-Run-clause-asks
returns-in-Run-clause-asks g c = rw (c.in-Run.is, sym c.as_str.ensures) c.told.ensures.asks

pub returns-in-Check-clause-asks : goal.returns-in-Check-clause-asks
returns-in-Check-clause-asks g c = rw (c.in-Check.is, sym c.as_str-in-Check.ensures) c.told-in-Check.ensures.asks

pub returns-in-Link-clause-asks : goal.returns-in-Link-clause-asks
returns-in-Link-clause-asks g c =
    rw (c.in-Link.is, sym c.as_str-in-Link.ensures, sym c.as_str-in-Link-3.ensures) c.link.ensures.asks

pub returns-in-Sites-clause-asks : goal.returns-in-Sites-clause-asks
returns-in-Sites-clause-asks g c =
    rw (c.in-Sites.is, sym c.as_str-in-Sites.ensures, sym c.as_str-in-Sites-2.ensures) c.sites.ensures.asks

pub returns-in-Show-clause-asks : goal.returns-in-Show-clause-asks
returns-in-Show-clause-asks g c =
    rw (c.in-Show.is, sym c.as_str-in-Show.ensures)
    (asks_any (g.S.Store.files c.args.store.now)
    (c.as_str-in-Show.result.now ∷ []) _ _ c.show.result c.show.ensures.asks)

pub returns-in-Gen-clause-asks : goal.returns-in-Gen-clause-asks
returns-in-Gen-clause-asks g c =
    rw c.in-Gen.is (asks_none (g.S.Store.files c.args.store.now) _ _ c.generated.result c.generated.ensures.asked)

-- The events name the first thread of each pass.
use Rattle.std.proofs.Common.{rules, sym, subst}
use Rattle.module_table.specs.declared.events.Event.{Event}
use Rattle.shared_tests.specs.Races.{IsReady}
use Rattle.shared_tests.proofs.calls.a_pass_finds_what_the_other_did.Goals as goal

pub ask-requires : goal.ask-requires
ask-requires g c =
    subst (λ (e : Event). IsReady e.thread 32 c.in_ok-shared.shared c.halve-left.result.0) (sym c.open.ensures)
    c.halve-left.ensures.left

pub ask-requires-2 : goal.ask-requires-2
ask-requires-2 g c =
    let ready : IsReady 33 32 c.in_ok-shared.shared c.newer.new.pass = search rules in
    subst (λ (e : Event). IsReady e.thread 32 c.in_ok-shared.shared c.newer.new.pass) (sym c.open-2.ensures) ready

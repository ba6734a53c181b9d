-- All of the history was seen, and the turn is over.
use Rattle.std.proofs.Common.{ap, ◌∙◌, []}
use Rattle.shared_modules.specs.Views.{away}
use Rattle.shared_modules.specs.Plays.{Sat}
use Rattle.shared_modules.proofs.Calls.{looked, looked_ending, caught_pass}
use Rattle.shared_modules.proofs.shared.Shared.catch_up.Goals as goal

pub end-requires-2-clause-ends : goal.end-requires-2-clause-ends
end-requires-2-clause-ends g c = let b = c.begin-registry.ensures.begun in
    looked_ending _ _ _ _ _
    (looked _ _ _ _ _ b c.read_generation-pass-inside.ensures.caught) b.images c.pass.invariant.speaks

pub returns-clause-caught : goal.returns-clause-caught
returns-clause-caught g c = let b = c.begin-registry.ensures.begun in
    let l = looked _ _ _ _ _ b c.read_generation-pass-inside.ensures.caught in
    caught_pass _ _ _ c.pass.inside.seat.me.0 c.begin-registry.result c.end-2.new.seat.me c.pass.view_is
    (c.end-2.ensures.table ∙ c.read_generation-pass-inside.ensures.table ∙ c.begin-registry.ensures.table)
    (c.end-2.ensures.left ∙ ap
    (λ (m : Sat). let x : Sat = (away m.0, []) in x) l.after_is) b.seen b.told b.images c.since.ensures.legal

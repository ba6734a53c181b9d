use Rattle.std.proofs.Common.{◌≡◌}
use Rattle.command_trials.proofs.samples.lay_all.Given as goal

-- the store's files stay
abbrev pub invariant-loop-name : goal.invariant-loop-name
invariant-loop-name g l = g.S.Store.files l.store ≡ g.S.Store.files l.fn.store

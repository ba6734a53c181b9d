-- What it has is what is held of.
use Rattle.std.proofs.Common.{◌∙◌, ◌++◌, ap}
use Rattle.marked_memory.specs.Holding.{kept_of}
use Rattle.marked_memory.specs.Spaces.{with_held}
use Rattle.marked_memory.proofs.Takes.{holds_is}
use Rattle.marked_memory.proofs.space.MarkedMemory.hold.Goals as goal

pub returns-clause-held : goal.returns-clause-held
returns-clause-held c =
    c.in_ok-hold_of.ensures.held
    ∙ holds_is (kept_of c.self.inside) c.args.live.items c.append.new.self.items c.args.handed.items c.args.wanted
    (c.in_ok-append.ensures.items ∙ ap (λ v. v.items ++ c.args.handed.items) c.replace-pool.ensures.value)
    ∙ ap (with_held c.args.live.items c.args.handed.items c.args.wanted) c.self.view_is

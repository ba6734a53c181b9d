-- What it has is what is held of.
use Rattle.std.proofs.Common.{◌∙◌, [], ap, sym, append-nil}
use Rattle.marked_memory.specs.declared.space.Wanted.TheVariants.{DataOf}
use Rattle.marked_memory.specs.Holding.{kept_of}
use Rattle.marked_memory.specs.Kept.{Kept}
use Rattle.marked_memory.specs.Spaces.{with_held}
use Rattle.marked_memory.proofs.Takes.{holds_is}
use Rattle.marked_memory.proofs.space.MarkedMemory.load.Goals as goal

pub returns-clause-loaded : goal.returns-clause-loaded
returns-clause-loaded c =
    c.in_ok-hold_of.ensures.held
    ∙ holds_is (kept_of c.self.inside) c.self.inside.live.items c.replace-pool.result.items [] (DataOf c.args.instance)
    (ap (λ v. v.items) c.replace-pool.ensures.value ∙ sym (append-nil c.self.inside.own.items))
    ∙ ap (λ (k : Kept). with_held k.live [] (DataOf c.args.instance) k) c.self.view_is

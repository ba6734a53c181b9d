-- Its ranges alone change.
use Rattle.std.proofs.Common.{◌∙◌, List, ap}
use Rattle.job_meaning.specs.declared.values.Byte.{Byte}
use Rattle.thread_blocks.specs.Held.{Owned, held_of}
use Rattle.whole_meaning.specs.Loads.{loads_of}
use Rattle.marked_memory.specs.Holding.{kept_of}
use Rattle.marked_memory.specs.Kept.{Kept}
use Rattle.marked_memory.specs.Spaces.{fills, reaches}
use Rattle.marked_memory.proofs.space.MarkedMemory.hold_of.Goals as goal

pub returns-clause-held : goal.returns-clause-held
returns-clause-held c =
    ap (λ (xs : List (Owned Byte)). record (kept_of c.self.inside) { own = xs })
    (c.in_ok-own.ensures ∙ ap
    (held_of (loads_of c.args.self.now.images) c.args.self.now.thread (reaches c.args.wanted)
    (fills c.args.wanted) c.args.self.now.live) c.deref_mut.ensures.value)
    ∙ ap (λ (k : Kept). record k {
      own = held_of (loads_of c.args.self.now.images) c.args.self.now.thread (reaches c.args.wanted)
          (fills c.args.wanted) c.args.self.now.live c.args.pool.items;
    }) c.self.view_is

-- Blocks, and behind them data.
use Rattle.std.proofs.Common.{◌∙◌, ◌++◌, List, ap}
use Rattle.std.specs.List.{flat_map}
use Rattle.job_meaning.specs.declared.values.Byte.{Byte}
use Rattle.thread_blocks.specs.Held.{Owned, block_after}
use Rattle.whole_meaning.specs.Loads.{loads_of}
use Rattle.marked_memory.specs.Spaces.{fills, reaches}
use Rattle.marked_memory.proofs.Takes.{all_data_same}
use Rattle.marked_memory.proofs.space.MarkedMemory.held_of.Goals as goal

pub returns : goal.returns
returns c =
    c.in_ok-append.ensures.items
    ∙ ap (λ (xs : List (Owned Byte)). xs ++ c.in_ok-shared.shared.items) c.in_ok-own.ensures.blocks
    ∙ ap (λ (xs : List (Owned Byte)).
    flat_map (block_after (loads_of c.args.self.now.images) c.args.self.now.thread
    (reaches c.args.wanted) c.args.pool.now) c.args.self.now.live ++ xs)
    (c.in_ok-shared.ensures
    ∙ all_data_same (loads_of c.args.self.now.images)
    (fills c.args.wanted) c.args.pool.now c.blocks_after.new.pool c.args.self.now.live c.in_ok-own.ensures.shared)

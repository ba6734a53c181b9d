-- How contracts see a thread's memory, and what else the code keeps true of it.
use Rattle.std.specs.Prelude.{◌≡◌, ◌≤◌}
use Rattle.thread_blocks.specs.MachineTurns.{pointer_word}
use Rattle.whole_meaning.specs.Threads.{ops}
use Rattle.marked_memory.specs.declared.space.MarkedMemory.TheInside.{Inside}
use Rattle.marked_memory.specs.Kept.{Kept}
use Rattle.marked_memory.specs.Spaces.{HaveOwnNumbers}

abbrev pub kept_of : Inside → Kept
kept_of s = record {
  thread = s.thread;
  images = s.images.now;
  live = s.live.items;
  stack = s.stack;
  own = s.own.items;
  lent = s.lent;
}

pub record HoldsSpace (s : Inside) : Type 0 where
  pub high : s.thread ≤ 64
  pub low : 1 ≤ s.thread
  pub pointer : s.pointer ≡ pointer_word ops s.thread
  pub numbers : HaveOwnNumbers s.live.items

-- The condition on a thread's written ranges that makes it read what is loaded.
use Rattle.std.specs.Prelude.{◌≡◌, ℕ, List, All, length}
use Rattle.address_map.specs.Map.{stack_size}
use Rattle.module_table.specs.declared.events.Event.{Event}
use Rattle.thread_blocks.specs.Held.{Owner, owned}
use Rattle.thread_blocks.specs.Instances.{Loads}
use Rattle.thread_blocks.specs.Spaces.{Space}
use Rattle.thread_blocks.specs.Turns.{IsFront}
use Rattle.tied_meaning.specs.Numbers.{Setting}
use Rattle.tied_meaning.specs.Threads.{IsPlaced}

-- the ranges that a thread writes, with these owners, each have the address that an instance of the history gives
-- them; and the thread has seen a front of that history, and has a stack
pub record AreInPlace (g : Setting) (q : Loads ℕ) (history : List Event) (thread : ℕ) (owners : List Owner)
    (space : Space Event ℕ) : Type 0 where
  pub placed : All (IsPlaced g q thread) (owned owners space.own)
  pub paired : length owners ≡ length space.own
  pub front : IsFront space.seen history
  pub deep : length space.stack ≡ stack_size

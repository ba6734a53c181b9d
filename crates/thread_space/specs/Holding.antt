-- The memory of a thread as contracts see it, and the invariant that the code keeps.
use Rattle.std.specs.Prelude.{◌≡◌, ◌≤◌}
use Rattle.address_map.specs.Map.{stack_start}
use Rattle.guest_arithmetic.specs.Plain.{plain_operations}
use Rattle.thread_blocks.specs.MachineTurns.{pointer_word}
use Rattle.thread_blocks.specs.Spaces.{stack_range}
use Rattle.thread_space.specs.declared.space.ThreadSpace.TheInside.{Inside}
use Rattle.thread_space.specs.Kept.{Kept, live_in}

abbrev pub kept_of : Inside → Kept
kept_of s = record { vector = s.dtv; pieces = s.data; stack = s.stack.bytes }

pub record HoldsSpace (s : Inside) : Type 0 where
  pub modules : s.modules.now ≡ s.dtv.images
  pub high : s.dtv.thread ≤ 64
  pub stack : s.stack ≡ stack_range (stack_start s.dtv.thread) s.stack.bytes
  pub pointer : s.pointer ≡ pointer_word plain_operations s.dtv.thread
  pub live : s.live.items ≡ live_in s.dtv.images s.dtv.past

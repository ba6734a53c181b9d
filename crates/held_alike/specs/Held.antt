-- The relation of what a thread holds, in the meaning and in the machine.
use Rattle.std.specs.Prelude.{ℕ, List, All}
use Rattle.guest_machine.specs.Follow.{All2}
use Rattle.job_meaning.specs.declared.values.Byte.{Byte}
use Rattle.thread_blocks.specs.Held.{Owned}
use Rattle.thread_blocks.specs.Instances.{Loads}
use Rattle.tied_meaning.specs.Numbers.{Setting}
use Rattle.tied_meaning.specs.Threads.{IsPlaced, SameOwned}

-- ranges of the same owners in the same order, related byte by byte; and each has the address and size that its
-- instance gives it for this thread
abbrev pub SameHeld : Setting → Loads ℕ → ℕ → List (Owned Byte) → List (Owned ℕ) → Type 0
SameHeld g q thread xs ys = All2 (SameOwned g) xs ys × All (IsPlaced g q thread) ys

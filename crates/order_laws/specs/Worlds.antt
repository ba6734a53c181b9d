-- Worlds of threads that share data, over values of two kinds.
use Rattle.std.specs.Prelude.{◌≡◌, ◌++◌, ℕ, suc, List, Some, slice_get}
use Rattle.module_table.specs.declared.events.Event.{Event}
use Rattle.thread_blocks.specs.Held.{Held, Owned, owned_by, with_owned}
use Rattle.thread_blocks.specs.JobWorlds.{Shared, blocks_in, data_in}
use Rattle.thread_blocks.specs.SpaceLaws.{FoundAlike}
use Rattle.thread_blocks.specs.Turns.{Thread}
use Rattle.thread_blocks.specs.TurnsAlike.{HasUnclean}
use Rattle.order_laws.specs.Alike.{SameOne}

-- Wait, Rest: the relations of what threads with a number hold, at a look in the middle of a line and between two
-- lines; Data: that of the data that they share
module _ {W F B W' F' B' : Type 0} (Wait Rest : ℕ → Held W F B → Held W' F' B' → Type 0)
    (Data : List (Owned B) → List (Owned B') → Type 0) where
  -- what a thread holds is related while it holds the data, and again without them; and the data that it leaves are
  pub record AreLent (i : ℕ) : Type 0 where
    pub lend_rest : (h : Held W F B) (h' : Held W' F' B') (xs : List (Owned B)) (ys : List (Owned B')) → Rest i h h'
        → Data xs ys → Rest i (with_owned h (owned_by h ++ xs)) (with_owned h' (owned_by h' ++ ys))
    pub lend_wait : (h : Held W F B) (h' : Held W' F' B') (xs : List (Owned B)) (ys : List (Owned B')) → Wait i h h'
        → Data xs ys → Wait i (with_owned h (owned_by h ++ xs)) (with_owned h' (owned_by h' ++ ys))
    pub keep_rest : (h : Held W F B) (h' : Held W' F' B') → Rest i h h'
        → Rest i (with_owned h (blocks_in (owned_by h))) (with_owned h' (blocks_in (owned_by h')))
    pub keep_wait : (h : Held W F B) (h' : Held W' F' B') → Wait i h h'
        → Wait i (with_owned h (blocks_in (owned_by h))) (with_owned h' (blocks_in (owned_by h')))
    pub left_rest : (h : Held W F B) (h' : Held W' F' B') → Rest i h h'
        → Data (data_in (owned_by h)) (data_in (owned_by h'))
    pub left_wait : (h : Held W F B) (h' : Held W' F' B') → Wait i h h'
        → Data (data_in (owned_by h)) (data_in (owned_by h'))

  -- Within: the threads that are related, counted from 0
  module _ {L : Type 0} (Within : ℕ → Type 0) where
    -- the same events, related data, and threads that are related one by one
    pub record SameWorld (w : Shared W F B L) (w' : Shared W' F' B' L) : Type 0 where
      pub events : w'.events ≡ w.events
      pub shared : Data w.shared w'.shared
      pub each : (i : ℕ)
          → FoundAlike (SameOne (Wait (suc i)) (Rest (suc i))) (slice_get w.threads i) (slice_get w'.threads i)
      pub within : (i : ℕ) (t : Thread (Held W F B) L Event) → slice_get w.threads i ≡ Some t → Within i

-- a line of some thread is unclean
pub record IsSomeUnclean {W F B L : Type 0} (w : Shared W F B L) : Type 0 where
  pub number : ℕ
  pub thread : Thread (Held W F B) L Event
  pub there : slice_get w.threads number ≡ Some thread
  pub unclean : HasUnclean thread.said

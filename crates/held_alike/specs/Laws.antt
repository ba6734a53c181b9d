-- The laws of what threads hold: for any setting and any loads that are tied, at the events that the job ends with.
use Rattle.std.specs.Prelude.{ℕ, List}
use Rattle.job_meaning.specs.declared.values.Byte.{Byte}
use Rattle.loaded_modules.specs.declared.instance.Instance.{Instance}
use Rattle.module_table.specs.declared.events.Event.{Event}
use Rattle.thread_blocks.specs.Held.{Owned, loaded_at, looked_at, reached_at}
use Rattle.thread_blocks.specs.Instances.{Loads}
use Rattle.thread_blocks.specs.Turns.{IsFront}
use Rattle.whole_meaning.specs.Meanings.{Meaning}
use Rattle.order_laws.specs.Worlds.{AreLent}
use Rattle.tied_meaning.specs.Numbers.{Setting}
use Rattle.tied_meaning.specs.Threads.{AtRest, SameData, Waiting}
use Rattle.tied_meaning.specs.Ties.{AreTied}
use Rattle.held_alike.specs.Held.{SameHeld}

-- a change of what a thread holds, on both sides, keeps it related
abbrev pub KeepsHeld : Setting → Loads ℕ → ℕ → (List (Owned Byte) → List (Owned Byte))
    → (List (Owned ℕ) → List (Owned ℕ)) → Type 0
KeepsHeld g q thread change change' = (xs : List (Owned Byte)) (ys : List (Owned ℕ)) → SameHeld g q thread xs ys
    → SameHeld g q thread (change xs) (change' ys)

-- a look
abbrev pub LooksKeepHeld : Type 0
LooksKeepHeld = (g : Setting) (m : Meaning) (q : Loads ℕ) (history : List Event) → AreTied g m q history
    → (thread : ℕ) (seen : List Event) → IsFront seen history
    → KeepsHeld g q thread (looked_at m.loads thread seen) (looked_at q thread seen)

-- a block that is reached
abbrev pub ReachesKeepHeld : Type 0
ReachesKeepHeld = (g : Setting) (m : Meaning) (q : Loads ℕ) (history : List Event) → AreTied g m q history
    → (thread : ℕ) (seen : List Event) → IsFront seen history → (x : Instance)
    → KeepsHeld g q thread (reached_at m.loads thread seen x) (reached_at q thread seen x)

-- an instance that is loaded
abbrev pub LoadsKeepHeld : Type 0
LoadsKeepHeld = (g : Setting) (m : Meaning) (q : Loads ℕ) (history : List Event) → AreTied g m q history
    → (thread : ℕ) (seen : List Event) → IsFront seen history → (x : Instance)
    → KeepsHeld g q thread (loaded_at m.loads thread seen x) (loaded_at q thread seen x)

-- the data of a job, lent to a thread for its turn and taken back: for any loads, tied or not
abbrev pub DataAreLentAlike : Type 0
DataAreLentAlike = (g : Setting) (m : Meaning) (q : Loads ℕ) (history : List Event) (thread : ℕ)
    → AreLent (λ i. Waiting g m q history thread) (λ i. AtRest g m q history thread) (SameData g q) thread

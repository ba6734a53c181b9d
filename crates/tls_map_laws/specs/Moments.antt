-- What a thread has of an instance's storage at one moment, as its accesses show it.
use Rattle.std.specs.Prelude.{◌≡◌, ◌<◌, ◌+◌, ℕ, true, false, List, Some, length, slice_get, unwrap_or, Ok, Err}
use Rattle.guest_machine.specs.Access.{Accesses, Refused}
use Rattle.loaded_modules.specs.declared.instance.Instance.{Instance}
use Rattle.module_table.specs.declared.events.Event.{Event}
use Rattle.thread_blocks.specs.Held.{Held}
use Rattle.thread_blocks.specs.Instances.{Loads, block_start, numbered_instance}
use Rattle.thread_blocks.specs.Spaces.{Space}
use Rattle.thread_blocks.specs.Turns.{IsFront}
use Rattle.tls_map_laws.specs.Map.{Act, byte_of, has_storage}

-- an instance that is live at some time of a history
pub record Lived {B : Type 0} (l : Loads B) (history : List Event) (x : Instance) : Type 0 where
  pub seen : List Event
  pub front : IsFront seen history
  pub live : numbered_instance l seen x.number ≡ Some x

-- initial: the initial image as it is loaded for an instance
module _ {W F B : Type 0} (l : Loads B) (thread : ℕ) (acc : Accesses (Space Event B) B) (initial : Instance → List B)
    (zero_byte : B) where
  -- a thread that did this has of an instance exactly the storage of the map
  pub record IsMap (acts : List (Act B)) (h : Held W F B) (x : Instance) : Type 0 where
    -- while it holds the block, each byte that it reads there is the map's, and each write is allowed
    pub reads : has_storage x.number acts ≡ true → (k : ℕ) → k < length (l.block x)
        → acc.byte h.after.memory (block_start thread x + k) ≡ Ok (byte_of (initial x) zero_byte x.number k acts)
    pub writes : has_storage x.number acts ≡ true → (k : ℕ) → k < length (l.block x)
        → acc.writes h.after.memory (block_start thread x + k) ≡ Ok tt
    -- while it does not, no access is
    pub no_reads : has_storage x.number acts ≡ false → (k : ℕ) → k < length (l.block x)
        → acc.byte h.after.memory (block_start thread x + k) ≡ Err Refused
    pub no_writes : has_storage x.number acts ≡ false → (k : ℕ) → k < length (l.block x)
        → acc.writes h.after.memory (block_start thread x + k) ≡ Err Refused
    -- it holds no block of an instance that was closed at its last look
    pub live : has_storage x.number acts ≡ true → numbered_instance l h.after.memory.seen x.number ≡ Some x

  -- an instance that it does not hold, and that is live now or later, begins anew, whatever was there of others: an
  -- image's next instance, and the next with the same module id
  abbrev pub BeginsAnew : List Event → List (Act B) → Held W F B → Instance → Type 0
  BeginsAnew history acts h x = (later : List Event) → IsFront h.after.memory.seen later → IsFront later history
      → numbered_instance l later x.number ≡ Some x → has_storage x.number acts ≡ false
      → (k : ℕ) → k < length (l.block x)
      → byte_of (initial x) zero_byte x.number k acts ≡ unwrap_or (slice_get (initial x) k) zero_byte

  -- so it is with every instance that is ever live, open or closed by now
  pub record AreMap (history : List Event) (acts : List (Act B)) (h : Held W F B) : Type 0 where
    pub each : (x : Instance) → Lived l history x → IsMap acts h x
    pub anew : (x : Instance) → BeginsAnew history acts h x

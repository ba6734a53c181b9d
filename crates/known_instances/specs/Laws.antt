-- The laws of instances in a history whose every event was accepted. What a thread has seen of it, at any time, is one
-- of its fronts.
use Rattle.std.specs.Prelude.{◌≡◌, ◌<◌, ◌≤◌, ℕ, true, false, List, Some, IsSome}
use Rattle.loaded_modules.specs.declared.instance.Instance.{Instance}
use Rattle.module_table.specs.declared.events.Event.{Event}
use Rattle.module_table.specs.declared.modules.ImageInfo.{ImageInfo}
use Rattle.module_table.specs.Past.{IsLegal}
use Rattle.module_table.specs.Past.{startup_count}
use Rattle.thread_blocks.specs.Instances.{Loads, instance_with_id, is_startup_id, numbered_instance}
use Rattle.thread_blocks.specs.Turns.{at_number}
use Rattle.thread_blocks.specs.Turns.{IsFront}
use Rattle.known_instances.specs.Known.{known_in}

-- ** numbers

-- any instance that is live under a number is the one instance with that number
abbrev pub NumbersAreKnown : Type 0
NumbersAreKnown = (q : Loads ℕ) (history : List Event) → IsLegal q.infos q.last_offset history
    → (seen : List Event) (number : ℕ) (x : Instance) → IsFront seen history
    → numbered_instance q seen number ≡ Some x → known_in q history number ≡ Some x

-- an instance is live under the number after these events, and they are a front of the history
pub record IsLiveAt (q : Loads ℕ) (history : List Event) (number : ℕ) (x : Instance) : Type 0 where
  pub seen : List Event
  pub front : IsFront seen history
  pub live : numbered_instance q seen number ≡ Some x

-- the instance with a number was live at some time, and has this number
abbrev pub KnownInstancesLived : Type 0
KnownInstancesLived = (q : Loads ℕ) (history : List Event) (number : ℕ) (x : Instance)
    → known_in q history number ≡ Some x → IsLiveAt q history number x × (x.number ≡ number)

-- ** ids

-- the id of a live instance finds that instance
abbrev pub IdsAreOwn : Type 0
IdsAreOwn = (q : Loads ℕ) (history : List Event) → IsLegal q.infos q.last_offset history
    → (seen : List Event) (x : Instance) → IsFront seen history
    → numbered_instance q seen x.number ≡ Some x → instance_with_id q seen x.id ≡ Some x

-- a startup image's instance is live at all times, under one number, which is its id
abbrev pub StartupInstancesStay : Type 0
StartupInstancesStay = (q : Loads ℕ) (history : List Event) → IsLegal q.infos q.last_offset history
    → (seen : List Event) (number : ℕ) → IsFront seen history → 0 < number → number ≤ startup_count q.infos
    → (x : Instance) × ((numbered_instance q seen number ≡ Some x) × (x.id ≡ number))

-- the id of a late instance is none of these
abbrev pub LateIdsAreLate : Type 0
LateIdsAreLate = (q : Loads ℕ) (history : List Event) → IsLegal q.infos q.last_offset history
    → (seen : List Event) (x : Instance) → IsFront seen history
    → numbered_instance q seen x.number ≡ Some x → startup_count q.infos < x.number → is_startup_id q x.id ≡ false

-- ** blocks

-- if an image needs its blocks at a fixed distance from the thread pointer (gABI, "Dynamic Section": DF_STATIC_TLS),
-- each of its instances has such a distance
abbrev pub StaticBlocksHaveOffsets : Type 0
StaticBlocksHaveOffsets = (q : Loads ℕ) (history : List Event) → IsLegal q.infos q.last_offset history
    → (number : ℕ) (x : Instance) (info : ImageInfo) → known_in q history number ≡ Some x
    → at_number q.infos x.image ≡ Some info → info.statics ≡ true → IsSome x.offset

-- A vector before and after a call, as clauses state it.
use Rattle.std.specs.Prelude.{◌≡◌, ◌+◌, ◌%◌, ◌^◌, ℕ, false, length, Option, Some, None}
use Rattle.module_table.specs.Past.{Past, module_of}
use Rattle.module_table.specs.PastLaws.{live, instance_of}
use Rattle.loaded_modules.specs.Loader.{fresh_block}
use Rattle.thread_vector.specs.declared.dtv.AddressRefusal.{AddressRefusal}
use Rattle.thread_vector.specs.declared.dtv.AddressRefusal.TheVariants.{Unloaded, OutOfMemory}
use Rattle.thread_vector.specs.Addresses.{start_of}
use Rattle.thread_vector.specs.Vectors.{Vector, held, loaded_as, reached, written}

-- the vector is still of the same thread and job, and has seen events that leave this state
pub record Leaves (old new : Vector) (p : Past) : Type 0 where
  pub thread : new.thread ≡ old.thread
  pub images : new.images ≡ old.images
  pub past : new.past ≡ p

-- the block of a loaded image in the surplus is filled, if it has one there
abbrev pub FilledAt : Vector → ℕ → Vector → Option ℕ → Type 0
FilledAt old image new None = new ≡ old
FilledAt old image new (Some offset) = let fresh = fresh_block old.images (loaded_as old.images old.past image) in
    (new ≡ record old { slots = written old.slots old.past.limit (module_of old.past image) (Some offset) fresh })
    × (length fresh ≡ (module_of old.past image).info.size)

-- a block of a loaded image is made in its slot
pub record MadeAt (old : Vector) (image : ℕ) (new : Vector) : Type 0 where
  pub slots : new ≡ record old {
    slots = written old.slots old.past.limit (module_of old.past image) None
        (fresh_block old.images (loaded_as old.images old.past image));
  }
  pub long : length (fresh_block old.images (loaded_as old.images old.past image))
      ≡ (module_of old.past image).info.size

-- the address in the block of the live instance with this id, which was reached
abbrev pub IsAddress : Vector → ℕ → ℕ → Vector → ℕ → Type 0
IsAddress old id offset new address = (instance : ℕ) → instance_of old.past id ≡ Some instance
    → (address ≡ (start_of old.thread old.images old.past instance + offset) % 2 ^ 64)
    × ((i : ℕ) → held new i ≡ reached old instance i)

-- why there is no address: the instance that asks is closed, or there was no memory for the block
abbrev pub IsRefused : Vector → ℕ → ℕ → AddressRefusal → Type 0
IsRefused old asking id Unloaded = live old.past asking ≡ false
IsRefused old asking id OutOfMemory =
    (instance : ℕ) → instance_of old.past id ≡ Some instance → held old instance ≡ None

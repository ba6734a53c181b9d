-- The laws of the addresses of blocks, without slots.
use Rattle.std.specs.Prelude.{◌≡◌, ◌≢◌, ◌+◌, ◌*◌, ◌<◌, ◌≤◌, ◌^◌, ℕ, true, Option, Some, None}
use Rattle.address_map.specs.Map.{pointer_of, stack_end, stack_size}
use Rattle.module_table.specs.Past.{Past, module_of}
use Rattle.module_table.specs.PastLaws.{image_of, live}
use Rattle.loaded_modules.specs.Images.{JobImages}
use Rattle.thread_vector.specs.Addresses.{start_of}

abbrev pub size_in : Past → Option ℕ → ℕ
size_in p None = 0
size_in p (Some image) = (module_of p image).info.size

-- the size of the block of a live instance in bytes
unfoldable pub block_length : Past → ℕ → ℕ
block_length p instance = size_in p (image_of p instance)

-- an address lies in a thread's block of a live instance
pub record Covers (thread : ℕ) (images : JobImages) (p : Past) (instance address : ℕ) : Type 0 where
  pub is : live p instance ≡ true
  pub from : start_of thread images p instance ≤ address
  pub to : address < start_of thread images p instance + block_length p instance

-- a thread's blocks of two instances share no address
abbrev pub BlocksAreApart : JobImages → Past → Type 0
BlocksAreApart images p =
    (thread a b address : ℕ) → a ≢ b → Covers thread images p a address → ¬ Covers thread images p b address

-- blocks of two threads share no address, whatever each has seen
abbrev pub ThreadsAreApart : JobImages → Past → Past → Type 0
ThreadsAreApart images p q =
    (one two a b address : ℕ) → one ≢ two → Covers one images p a address → ¬ Covers two images q b address

-- an address of the thread's own below its thread pointer, so neither at the thread pointer nor on the stack
pub record IsBelow (thread address : ℕ) : Type 0 where
  pub own : thread * 2 ^ 40 ≤ address
  pub below : address < pointer_of thread
  pub off_stack : address + stack_size < stack_end thread

abbrev pub BlocksLieBelow : JobImages → Past → Type 0
BlocksLieBelow images p = (thread a address : ℕ) → Covers thread images p a address → IsBelow thread address

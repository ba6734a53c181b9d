-- Where the parts of a thread and the instances of images lie. Each thread has 2^40 addresses of its own. Its thread
-- pointer stands in their first half, with the blocks at fixed offsets below it (Drepper, "ELF Handling For Thread-Local
-- Storage", section 3, variant II). Each other block has 2^24 addresses, by its instance's number.
use Rattle.std.specs.Prelude.{ℕ, ◌+◌, ◌-◌, ◌*◌, ◌/◌, ◌^◌, nat_lt, if◌then◌else◌, Option, Some, None}

-- ** the run time, below all images

-- the address of `__tls_get_addr`
abbrev pub getter_place : ℕ
getter_place = 0x1000

-- the address of the function of TLS descriptors
abbrev pub descriptor_place : ℕ
descriptor_place = 0x1800

-- the address that a call of a job returns to
abbrev pub return_place : ℕ
return_place = 0x2000

-- ** the parts of a thread

-- the thread pointer (psABI, "Thread-Local Storage": the base of %fs)
abbrev pub pointer_of : ℕ → ℕ
pointer_of thread = thread * 2 ^ 40 + 2 ^ 38

-- the size of the stack in bytes
abbrev pub stack_size : ℕ
stack_size = 65536

-- the end of the stack, which grows down
abbrev pub stack_end : ℕ → ℕ
stack_end thread = thread * 2 ^ 40 + 2 ^ 39

abbrev pub stack_start : ℕ → ℕ
stack_start thread = stack_end thread - stack_size

-- where the block of instance `number` begins: at its distance below the thread pointer, or at an address of the
-- instance's own
abbrev pub block_place : ℕ → ℕ → Option ℕ → ℕ
block_place thread number (Some distance) = pointer_of thread - distance
block_place thread number None = thread * 2 ^ 40 + number * 2 ^ 24

-- ** instances of images

-- the load bias of an instance that is moved
abbrev pub moved_bias : ℕ → ℕ
moved_bias number = 2 ^ 32 + number * 2 ^ 26

-- the instance whose code lies at an address: its load bias tells it, and an executable, instance 1, lies below 2^32
unfoldable pub owner_at : ℕ → ℕ
owner_at place = if nat_lt place (2 ^ 32) then 1 else (place - 2 ^ 32) / 2 ^ 26

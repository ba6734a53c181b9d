-- Where things lie, in literals. It watches `Map` (address_map), `base_of` (link_faults), `base` (image_faults) and
-- `page_up` (tls_layout): a first address, and how far it is to the next one.
use Rattle.std.specs.Prelude.{◌≡◌, ◌+◌, ◌<◌, ◌≤◌, ℕ, List, Some, None}
use Rattle.address_map.specs.Map.{getter_place, descriptor_place, return_place, pointer_of, stack_end, stack_start}
use Rattle.address_map.specs.Map.{block_place, moved_bias, owner_at}
use Rattle.image_faults.specs.Parts.{base, header}
use Rattle.link_faults.specs.declared.image_kind.ImageKind.TheVariants.{Exe, Pie, Start, Late}
use Rattle.link_faults.specs.ImageKinds.{base_of}
use Rattle.tls_layout.specs.Rounding.{page_up}

-- ** the run time, which has no image: below 0x400000

pub record RunTimeLies : Type 0 where
  -- `__tls_get_addr` (psABI, "Thread-Local Storage"; Drepper, section 3.4.2)
  pub getter : getter_place ≡ 0x1000
  -- the function of TLS descriptors
  pub descriptor : descriptor_place ≡ 0x1800
  -- what a call of a job returns to
  pub back : return_place ≡ 0x2000

-- ** threads, which are numbered from 1: 2^40 addresses each

pub record ThreadsLie : Type 0 where
  -- the thread pointer (Drepper, section 3, variant II: the blocks lie below it)
  pub first_pointer : pointer_of 1 ≡ 0x14000000000
  pub next_pointer : (thread : ℕ) → pointer_of (thread + 1) ≡ pointer_of thread + 0x10000000000
  -- a block at a fixed distance, below it
  pub fixed_block : (thread number distance : ℕ) → distance ≤ pointer_of thread
      → block_place thread number (Some distance) + distance ≡ pointer_of thread
  -- another block: 2^24 addresses for each instance
  pub first_block : block_place 1 1 None ≡ 0x10001000000
  pub next_block : (thread number : ℕ)
      → block_place thread (number + 1) None ≡ block_place thread number None + 0x1000000
  pub next_blocks : (thread number : ℕ)
      → block_place (thread + 1) number None ≡ block_place thread number None + 0x10000000000
  -- the stack, of 65,536 bytes
  pub first_stack : stack_end 1 ≡ 0x18000000000
  pub next_stack : (thread : ℕ) → stack_end (thread + 1) ≡ stack_end thread + 0x10000000000
  pub stack_size : (thread : ℕ) → stack_start thread + 65536 ≡ stack_end thread

-- ** images and their instances

pub record ImagesLie : Type 0 where
  -- a program at fixed addresses begins at 0x400000, every other image at 0
  pub program : base_of Exe ≡ 0x400000
  pub others : (base_of Pie ≡ 0) × (base_of Start ≡ 0) × (base_of Late ≡ 0)
  -- so its file says: `e_type` is ET_EXEC, 2, or ET_DYN, 3 (gABI, "ELF Header")
  pub fixed_file : (bytes : List ℕ) → (header bytes).e_type ≡ 2 → base bytes ≡ 0x400000
  pub moved_file : (bytes : List ℕ) → (header bytes).e_type ≡ 3 → base bytes ≡ 0
  -- a page has 4,096 bytes (psABI, "Process Initialization")
  pub pages : (page_up 0 ≡ 0) × (page_up 1 ≡ 4096) × (page_up 4096 ≡ 4096) × (page_up 4097 ≡ 8192)
  -- an instance that is moved: 2^26 addresses from 2^32 on, by its number
  pub first_instance : moved_bias 1 ≡ 0x104000000
  pub next_instance : (number : ℕ) → moved_bias (number + 1) ≡ moved_bias number + 0x4000000
  -- whose an address is: instance 1's below 2^32
  pub program_owns : (place : ℕ) → place < 0x100000000 → owner_at place ≡ 1
  pub instance_owns : (number within : ℕ) → within < 0x4000000 → owner_at (moved_bias number + within) ≡ number

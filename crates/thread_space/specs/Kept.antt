-- What a thread's code keeps, as the ranges that its machine accesses: its stack, its blocks, data, and after them
-- what no thread writes. Blocks and data are in the order of the images of their instances, as a look leaves them.
use Rattle.std.specs.Prelude.{◌≡◌, ℕ, Bool, List, [], ◌∷◌, ◌++◌, length, Option}
use Rattle.std.specs.List.{flat_map}
use Rattle.address_map.specs.Map.{stack_start}
use Rattle.guest_arithmetic.specs.Plain.{plain_operations}
use Rattle.guest_operands.specs.declared.state.State.{State}
use Rattle.guest_operands.specs.Ranges.{AddressSpace, Range}
use Rattle.guest_operands.specs.Use.{left}
use Rattle.loaded_modules.specs.declared.instance.Instance.{Instance}
use Rattle.loaded_modules.specs.Images.{JobImages, infos, last_offset}
use Rattle.module_data.specs.Pieces.{Piece, data_of}
use Rattle.module_table.specs.declared.events.Event.{Event}
use Rattle.module_table.specs.Past.{Past, past}
use Rattle.thread_blocks.specs.declared.asked.Asked.{Asked}
use Rattle.thread_blocks.specs.Held.{Owned, Owner, block_with, data_with, owners_of, ranges_in}
use Rattle.thread_blocks.specs.Instances.{fixed_of, instances_in}
use Rattle.thread_blocks.specs.JobLoads.{job_loads}
use Rattle.thread_blocks.specs.MachineTurns.{pointer_word}
use Rattle.thread_blocks.specs.RunTime.{Runs}
use Rattle.thread_blocks.specs.Spaces.{stack_range}
use Rattle.thread_vector.specs.Vectors.{Vector, held}

-- the thread's vector, the data of all instances, and the stack's bytes
pub record Kept : Type 0 where
  pub vector : Vector
  pub pieces : List Piece
  pub stack : List ℕ

-- ---- written ranges

-- the instances that were live at the thread's last look
abbrev pub live_in : JobImages → Past → List Instance
live_in m p = instances_in (infos m) p

-- the thread's blocks
unfoldable pub blocks_of : Vector → List (Owned ℕ)
blocks_of v = flat_map (λ (x : Instance). block_with v.thread x (held v x.number)) (live_in v.images v.past)

-- the data of an instance, if its image has any
abbrev pub data_in : JobImages → List Piece → Instance → List (Owned ℕ)
data_in m d x = data_with x ((job_loads m).shared x) (data_of d x.number x.image)

-- the data of the live instances after a history
unfoldable pub shared_of : JobImages → Past → List Piece → List (Owned ℕ)
shared_of m p d = flat_map (data_in m d) (live_in m p)

abbrev pub owned_of : Vector → List Piece → List (Owned ℕ)
owned_of v d = blocks_of v ++ shared_of v.images v.past d

-- ---- other ranges

unfoldable pub fixed_in : JobImages → Past → ℕ → List (Range ℕ)
fixed_in m p thread = pointer_word plain_operations thread ∷ fixed_of (job_loads m) (live_in m p)

-- ---- all ranges

abbrev pub ranges_of_kept : Kept → List (Range ℕ)
ranges_of_kept k = stack_range (stack_start k.vector.thread) k.stack ∷
    (ranges_in (owned_of k.vector k.pieces) ++ fixed_in k.vector.images k.vector.past k.vector.thread)

unfoldable pub memory_of : Kept → AddressSpace ℕ
memory_of k = record { ranges = ranges_of_kept k; fields = [] }

-- ---- what no access changes

pub record Shape : Type 0 where
  pub thread : ℕ
  pub images : JobImages
  pub past : Past
  -- the owners of the written ranges, in their order
  pub owners : List Owner
  -- the number of images that the data are of
  pub count : ℕ

unfoldable pub shape_of : Kept → Shape
shape_of k = record {
  thread = k.vector.thread;
  images = k.vector.images;
  past = k.vector.past;
  owners = owners_of (owned_of k.vector k.pieces);
  count = length k.pieces;
}

-- the shape of a thread that knows no image
abbrev pub shape_with : ℕ → Shape
shape_with thread = record {
  thread = thread;
  images = record { kinds = []; images = [] };
  past = record { seen = 0; made = 0; taken = 0; limit = 0; modules = [] };
  owners = [];
  count = 0;
}

-- ---- in the definitions of lines

-- the events leave the state that the thread has seen
abbrev pub HasSeen : Vector → List Event → Type 0
HasSeen v seen = past (infos v.images) (last_offset v.images) seen ≡ v.past

-- a thread that keeps this, with its machine in this state, after these events
abbrev pub held_at : List Event → State ℕ Bool → Option Asked → Kept → Runs
held_at seen state asked k = record {
  after = left state (record { seen = seen; stack = k.stack; own = ranges_in (owned_of k.vector k.pieces) });
  owners = owners_of (owned_of k.vector k.pieces);
  asked = asked;
}

-- What the checker keeps of a thread's memory, and the definitions' thread that it stands for.
use Rattle.std.specs.Prelude.{◌≡◌, ◌==◌, ℕ, Bool, true, false, List, [], ◌∷◌, ◌++◌, Option, Some, None, option_and_then}
use Rattle.std.specs.Prelude.{if◌then◌else◌}
use Rattle.std.specs.List.{find, list_any}
use Rattle.address_map.specs.Map.{owner_at, stack_start}
use Rattle.guest_machine.specs.Run.{is_look}
use Rattle.guest_operands.specs.declared.space.Access.TheVariants.{Write}
use Rattle.guest_operands.specs.declared.state.State.{State}
use Rattle.guest_operands.specs.Ranges.{AddressSpace, Range, grants}
use Rattle.guest_operands.specs.Use.{left}
use Rattle.job_meaning.specs.declared.values.Byte.{Byte}
use Rattle.job_meaning.specs.declared.values.Flag.{Flag}
use Rattle.job_meaning.specs.declared.values.Word.{Word}
use Rattle.link_needs.specs.Linking.{Linking}
use Rattle.loaded_modules.specs.declared.instance.Instance.{Instance}
use Rattle.module_table.specs.declared.events.Event.{Event}
use Rattle.thread_blocks.specs.Held.{Owned, Owner, owners_of, ranges_in}
use Rattle.thread_blocks.specs.Instances.{fixed_of, instances}
use Rattle.thread_blocks.specs.MachineTurns.{pointer_word, word_bytes}
use Rattle.thread_blocks.specs.Spaces.{stack_range}
use Rattle.whole_meaning.specs.declared.marks.Mark.{Mark}
use Rattle.whole_meaning.specs.declared.sequences.Sequence.{Sequence}
use Rattle.whole_meaning.specs.Loads.{loads_of, meaning_of}
use Rattle.whole_meaning.specs.Threads.{Meant, ops}
use Rattle.std.specs.Option.{option_map_or}
use Rattle.whole_meaning.specs.declared.marks.Mark.TheVariants.{Usual}

pub record Kept : Type 0 where
  pub thread : ℕ
  -- the images of the job, in image order
  pub images : List Linking
  -- the instances that were live at the thread's last look, in the order of their images
  pub live : List Instance
  pub stack : List Byte
  -- its blocks, and after them the data while this thread has them
  pub own : List (Owned Byte)
  -- the word that is lent at address 0 for one step
  pub lent : Option ℕ

-- ** memory

-- the eight bytes of a lent word, which can only be read
abbrev pub lent_range : ℕ → Range Byte
lent_range number = record {
  start = 0;
  bytes = word_bytes ops number;
  readable = true;
  writable = false;
  runnable = false;
}

abbrev pub with_lent : Option ℕ → List (Range Byte) → List (Range Byte)
with_lent None ranges = ranges
with_lent (Some number) ranges = lent_range number ∷ ranges

-- what no thread writes: the word at the thread pointer, and code and constants
abbrev pub fixed_in : Kept → List (Range Byte)
fixed_in k = pointer_word ops k.thread ∷ fixed_of (loads_of k.images) k.live

abbrev pub ranges_of_kept : Kept → List (Range Byte)
ranges_of_kept k =
    with_lent k.lent (stack_range (stack_start k.thread) k.stack ∷ (ranges_in k.own ++ fixed_in k))

unfoldable pub memory_of : Kept → AddressSpace Byte
memory_of k = record { ranges = ranges_of_kept k; fields = [] }

-- ** what no access changes

pub record Shape : Type 0 where
  pub thread : ℕ
  pub images : List Linking
  pub live : List Instance
  pub owners : List Owner
  pub lent : Option ℕ

unfoldable pub shape_of : Kept → Shape
shape_of k = record {
  thread = k.thread;
  images = k.images;
  live = k.live;
  owners = owners_of k.own;
  lent = k.lent;
}

-- the shape of a thread with no images
abbrev pub shape_with : ℕ → Shape
shape_with thread = record { thread = thread; images = []; live = []; owners = []; lent = None }

-- ** code

-- the live instance whose code is at a place
abbrev pub owner_in : Kept → ℕ → Option Instance
owner_in k place = find (λ (x : Instance). x.number == owner_at place) k.live

-- the mark of a byte of code
unfoldable pub mark_in : Kept → ℕ → Mark
mark_in k place = option_map_or (λ (x : Instance). (meaning_of k.images).mark x place) (owner_in k place) Usual

-- whether a place is the linker's own: an address of the run time, or in the room of a live instance
unfoldable pub shut_in : Kept → ℕ → Bool
shut_in k place =
    if is_look place then true else list_any (λ x. (meaning_of k.images).room x place) k.live

-- the sequence that begins at a place, if one does
unfoldable pub sequence_in : Kept → ℕ → Option Sequence
sequence_in k place = option_and_then (λ x. (meaning_of k.images).sequence x place) (owner_in k place)

-- whether a place is in the stack
abbrev pub is_stack : Kept → ℕ → Bool
is_stack k place = grants Write (stack_range (stack_start k.thread) k.stack) place

-- ** as the definitions have it

-- the live instances are those that the events leave
abbrev pub HasSeen : Kept → List Event → Type 0
HasSeen k seen = instances (loads_of k.images) seen ≡ k.live

-- the definitions' thread with this memory and these registers, which has seen these events
abbrev pub held_at : List Event → State Word Flag → Kept → Meant
held_at seen state k = record {
  after = left state (record { seen = seen; stack = k.stack; own = ranges_in k.own });
  owners = owners_of k.own;
  asked = None;
}

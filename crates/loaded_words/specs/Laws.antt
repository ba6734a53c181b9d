-- The global offset table of a loaded instance of a linked image.
use Rattle.std.specs.Prelude.{◌≡◌, ◌+◌, ◌*◌, ◌<◌, ℕ, true, false, List, Some, IsSome, map, slice_get}
use Rattle.std.specs.List.{list_any}
use Rattle.amd64_subset.specs.declared.instr.Operation.TheVariants.{Jump}
use Rattle.amd64_subset.specs.declared.instr.Target.TheVariants.{Indirect}
use Rattle.amd64_subset.specs.declared.operand.Operand.TheVariants.{InMemory}
use Rattle.amd64_subset.specs.Decoding.{decoded}
use Rattle.got_pairs.specs.declared.need.Need.{Need}
use Rattle.got_pairs.specs.declared.need.Need.TheVariants.{RuntimeWord}
use Rattle.got_pairs.specs.Needs.{size_of, start_of}
use Rattle.guest_arithmetic.specs.Values.{digit}
use Rattle.guest_operands.specs.declared.space.Access.TheVariants.{Read, Run}
use Rattle.guest_operands.specs.Ranges.{Range, byte_in}
use Rattle.guest_operands.specs.Use.{plus}
use Rattle.known_instances.specs.Known.{known_in}
use Rattle.link_faults.specs.ImageKinds.{is_module}
use Rattle.link_needs.specs.Linking.{Linking, block_offset}
use Rattle.link_needs.specs.Needs.{entries, got_start, has_stub, stub_start}
use Rattle.loaded_bytes.specs.Laws.{IsInstanceOf, images_of}
use Rattle.loaded_modules.specs.declared.instance.Instance.{Instance}
use Rattle.loaded_modules.specs.Images.{is_late, static_offset}
use Rattle.job_text.specs.ProgramFirst.{ProgramFirst}
use Rattle.module_table.specs.declared.events.Event.{Event}
use Rattle.module_table.specs.Past.{IsLegal}
use Rattle.module_table.specs.Past.{startup_count}
use Rattle.sequence_laws.specs.Instructions.{displaced, of_next}
use Rattle.thread_blocks.specs.JobLoads.{job_loads}
use Rattle.thread_blocks.specs.RunTime.{has_words}
use Rattle.thread_blocks.specs.Turns.{at_number}
use Rattle.whole_meaning.specs.Loads.{wants_surplus}
use Rattle.whole_meaning.specs.Spots.{bias_of}
use Rattle.loaded_words.specs.Words.{loaded_words}

-- ** instances

-- an instance with a number in a history of the images' opens and closes, each of which was accepted
pub record IsKnown (ls : List Linking) (history : List Event) (x : Instance) : Type 0 where
  pub program : ProgramFirst (map (λ l. l.kind) ls)
  pub legal : IsLegal (job_loads (images_of ls)).infos (job_loads (images_of ls)).last_offset history
  pub known : known_in (job_loads (images_of ls)) history x.number ≡ Some x

-- a startup instance has its image's number, which is also its id, and its blocks begin where those of the images
-- before it end. A late one has a number above all these, and its blocks have a fixed distance if its code relies on
-- one. A program is instance 1 and module 1, and its blocks begin right below the thread pointer
pub record IsPlaced (ls : List Linking) (l : Linking) (x : Instance) : Type 0 where
  pub early : is_late l.kind ≡ false
      → (x.number ≡ x.image) × (x.id ≡ x.image) × (x.offset ≡ Some (static_offset (images_of ls) x.image))
  pub late : is_late l.kind ≡ true → startup_count (job_loads (images_of ls)).infos < x.number
  pub surplus : wants_surplus l ≡ true → IsSome x.offset
  pub number : is_module l.kind ≡ false → x.number ≡ 1
  pub id : is_module l.kind ≡ false → x.id ≡ 1
  pub offset : is_module l.kind ≡ false → x.offset ≡ Some (block_offset l)

abbrev pub InstancesArePlaced : Type 0
InstancesArePlaced = (ls : List Linking) (l : Linking) (x : Instance) (history : List Event) → IsKnown ls history x
    → at_number ls x.image ≡ Some l → IsPlaced ls l x

-- ** words

-- eight bytes that can be read from an address on are those of a word, the lowest first
abbrev pub HasWord : List (Range ℕ) → ℕ → ℕ → Type 0
HasWord ranges address word = (k : ℕ) → k < 8 → byte_in Read ranges (address + k) ≡ Some (digit word k)

-- each word of each entry is that of the table
abbrev pub WordsAreLoaded : Type 0
WordsAreLoaded = (ls : List Linking) (l : Linking) (x : Instance) (history : List Event) (need : Need) (at k word : ℕ)
    → IsKnown ls history x → IsInstanceOf ls l x → start_of (entries l) need ≡ Some at
    → slice_get (loaded_words (images_of ls) l.kind x need) k ≡ Some word
    → HasWord ((job_loads (images_of ls)).fixed x) (got_start l + at + 8 * k + bias_of l.kind x.number) word

-- both words of a pair or of a descriptor lie in a range from which the run time reads them
abbrev pub TablesHold : Type 0
TablesHold = (ls : List Linking) (l : Linking) (x : Instance) (need : Need) (at : ℕ) → IsInstanceOf ls l x
    → start_of (entries l) need ≡ Some at → size_of need ≡ 16
    → list_any (has_words (got_start l + at + bias_of l.kind x.number)) ((job_loads (images_of ls)).tables x) ≡ true

-- ** the stub

-- the stub is one instruction, jmp *far(%rip), which jumps through the run time's word: `far` is the distance from the
-- instruction's end to that word
pub record IsStub (l : Linking) (bias : ℕ) (fixed : List (Range ℕ)) : Type 0 where
  pub bytes : List ℕ
  pub far : ℕ
  pub read : decoded bytes ≡ Some (displaced 6 2 (Jump (Indirect (InMemory of_next))) far)
  pub there : (k : ℕ) → k < 6 → byte_in Run fixed (stub_start l + bias + k) ≡ slice_get bytes k
  pub at : ℕ
  pub starts : start_of (entries l) RuntimeWord ≡ Some at
  pub goes : plus (stub_start l + bias + 6) far ≡ got_start l + at + bias

abbrev pub StubIsLoaded : Type 0
StubIsLoaded = (ls : List Linking) (l : Linking) (x : Instance) (history : List Event) → IsKnown ls history x
    → IsInstanceOf ls l x → has_stub l ≡ true
    → IsStub l (bias_of l.kind x.number) ((job_loads (images_of ls)).fixed x)

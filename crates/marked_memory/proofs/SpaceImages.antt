-- What a step does over the ranges that the code has, it does over the memory of the meaning's thread.
use Rattle.std.proofs.Common.{◌≡◌, ◌∙◌, ◌-◌, ◌++◌, ◌<◌, ◌≤◌, ℕ, zero, suc, Bool, true, false, List, [], ◌∷◌, Option}
use Rattle.std.proofs.Common.{Some, None, Result, Ok, Err, refl, sym, ap, inl, inr, arith}
use Rattle.std.specs.Prelude.{if◌then◌else◌, ok_or, slice_get, slice_set}
use Rattle.std.proofs.lemmas.Bool.{cases_lt, le-leb, le-ltb, lt-ltb}
use Rattle.std.proofs.lemmas.List.{append_cancel_right}
use Rattle.address_map.specs.Map.{stack_start}
use Rattle.amd64_subset.specs.declared.instr.Operation.{Operation}
use Rattle.guest_operands.specs.declared.frame.Frame.{Frame}
use Rattle.guest_operands.specs.declared.space.Access.TheVariants.{Read, Write}
use Rattle.guest_operands.specs.declared.state.State.{State}
use Rattle.guest_operands.specs.declared.stop.Stop.{Stop}
use Rattle.guest_operands.specs.Access.{Accesses, Refused}
use Rattle.guest_operands.specs.Ranges.{AddressSpace, Range, byte_in, grants}
use Rattle.guest_operands.specs.RangeLaws.{range_accesses}
use Rattle.guest_operands.specs.Use.{After, left}
use Rattle.guest_machine.specs.Step.{act}
use Rattle.job_meaning.specs.declared.values.Byte.{Byte}
use Rattle.job_meaning.specs.declared.values.Flag.{Flag}
use Rattle.job_meaning.specs.declared.values.Word.{Word}
use Rattle.link_needs.specs.Linking.{Linking}
use Rattle.loaded_modules.specs.declared.instance.Instance.{Instance}
use Rattle.module_table.specs.declared.events.Event.{Event}
use Rattle.thread_blocks.specs.Held.{Owner, ranges_in}
use Rattle.thread_blocks.specs.Instances.{fixed_at, fixed_of, instances}
use Rattle.thread_blocks.specs.MachineTurns.{pointer_word, word_bytes}
use Rattle.thread_blocks.specs.Spaces.{put_byte, space_accesses, stack_range}
use Rattle.thread_blocks.specs.SpaceLaws.{IsImage, NoneWritable, mapped}
use Rattle.thread_blocks.proofs.Image.{act_image}
use Rattle.thread_blocks.proofs.Spaces.{put_is_with_byte}
use Rattle.whole_meaning.specs.Fields.{lent, lent_byte}
use Rattle.whole_meaning.specs.Loads.{loads_of, meaning_of}
use Rattle.whole_meaning.specs.Threads.{Memory, meant_accesses, ops}
use Rattle.marked_memory.specs.Kept.{HasSeen, Kept, Shape, held_at, lent_range, memory_of, shape_of, with_lent}
use Rattle.marked_memory.proofs.Writes.{lent-written, none_fixed}

-- the memory of the meaning's thread that keeps this, where it saw these events
abbrev pub space_at : List Event → Kept → Memory
space_at seen k = record { seen = seen; stack = k.stack; own = ranges_in k.own }

-- ** one memory as the image of the other

-- byte k of the eight of a word
word-byte : (number k : ℕ) → k < 8 → slice_get (word_bytes ops number) k ≡ Some (ops.byte_of (ops.word number) k)
word-byte number zero h = refl
word-byte number (suc zero) h = refl
word-byte number (suc (suc zero)) h = refl
word-byte number (suc (suc (suc zero))) h = refl
word-byte number (suc (suc (suc (suc zero)))) h = refl
word-byte number (suc (suc (suc (suc (suc zero))))) h = refl
word-byte number (suc (suc (suc (suc (suc (suc zero)))))) h = refl
word-byte number (suc (suc (suc (suc (suc (suc (suc zero))))))) h = refl
word-byte number (suc (suc (suc (suc (suc (suc (suc (suc k)))))))) h = absurd (omega arith)

lent-granted : (number place : ℕ) → place < 8 → grants Read (lent_range number) place ≡ true
lent-granted number place h =
    let low = le-leb 0 place (omega arith) in
    let same : place - 0 ≡ place = omega arith in
    rw (low, same) (lt-ltb place 8 h)

lent-beyond : (number place : ℕ) → 8 ≤ place → grants Read (lent_range number) place ≡ false
lent-beyond number place h =
    let low = le-leb 0 place (omega arith) in
    let same : place - 0 ≡ place = omega arith in
    rw (low, same) (le-ltb place 8 h)

lent-read : (number place : ℕ) (ranges : List (Range Byte))
    → ok_or (byte_in Read (lent_range number ∷ ranges) place) Refused
    ≡ lent_byte ops number place (ok_or (byte_in Read ranges place) Refused)
lent-read number place ranges = elim (cases_lt place 8) [
  | inl l ↦
      let same : place - 0 ≡ place = omega arith in
      ap (λ b. ok_or (if b then slice_get (word_bytes ops number) (place - 0) else byte_in Read ranges place) Refused)
      (lent-granted number place l)
      ∙ ap (λ o. ok_or o Refused) (ap (slice_get (word_bytes ops number)) same ∙ word-byte number place l)
      ∙ sym (rw (lt-ltb place 8 l) refl)
  | inr l ↦
      ap (λ b. ok_or (if b then slice_get (word_bytes ops number) (place - 0) else byte_in Read ranges place) Refused)
      (lent-beyond number place l)
      ∙ sym (rw (le-ltb place 8 l) refl)
]

module _ (ls : List Linking) (thread : ℕ) (lent_word : Option ℕ) where
  -- what no thread writes, where these events were seen
  abbrev pub fixed_seen : List Event → List (Range Byte)
  fixed_seen seen = pointer_word ops thread ∷ fixed_at (loads_of ls) seen

  -- the ranges of a thread's memory, behind a word that is lent
  abbrev pub image_at : Memory → AddressSpace Byte
  image_at m = record {
    ranges = with_lent lent_word (stack_range (stack_start thread) m.stack ∷ (m.own ++ fixed_seen m.seen));
    fields = [];
  }

  none-seen : (seen : List Event) → NoneWritable (fixed_seen seen)
  unfolding fixed_at
  none-seen seen = none_fixed ls thread (instances (loads_of ls) seen)

  put-image : (m : Memory) (place : ℕ) (byte : Byte)
      → (range_accesses ops).put (image_at m) place byte ≡ image_at (put_byte (stack_start thread) m place byte)
  unfolding range_accesses
  put-image m place byte =
      ap (λ (ranges : List (Range Byte)). record { ranges = ranges; fields = [] })
      (lent-written lent_word (stack_range (stack_start thread) m.stack ∷ (m.own ++ fixed_seen m.seen)) place byte
      ∙ ap (with_lent lent_word) (put_is_with_byte ops (stack_start thread) fixed_seen none-seen m place byte))

-- the law
pub lent_image : (ls : List Linking) (thread : ℕ) (lent_word : Option ℕ)
    → IsImage (lent ops (meant_accesses (meaning_of ls) thread) lent_word) (range_accesses ops)
    (image_at ls thread lent_word)
unfolding range_accesses meant_accesses space_accesses meaning_of
lent_image ls thread None = record {
  byte = λ m place. refl;
  writes = λ m place. refl;
  put = λ m place byte. put-image ls thread None m place byte;
  code = λ m place. refl;
}
lent_image ls thread (Some number) = record {
  byte = λ m place. lent-read number place
      (stack_range (stack_start thread) m.stack ∷ (m.own ++ fixed_seen ls thread None m.seen));
  writes = λ m place. refl;
  put = λ m place byte. put-image ls thread (Some number) m place byte;
  code = λ m place. refl;
}

-- ** the ranges that the code has are those of the meaning's memory

pub memory_is : (k : Kept) (seen : List Event) → HasSeen k seen
    → memory_of k ≡ image_at k.images k.thread k.lent (space_at seen k)
unfolding memory_of fixed_at
memory_is k seen has =
    ap (λ (live : List Instance). record {
      ranges = with_lent k.lent
          (stack_range (stack_start k.thread) k.stack
          ∷ (ranges_in k.own ++ (pointer_word ops k.thread ∷ fixed_of (loads_of k.images) live)));
      fields = [];
    }) (sym has)

-- what a shape tells
pub record SameShape (k k' : Kept) : Type 0 where
  pub thread : k'.thread ≡ k.thread
  pub images : k'.images ≡ k.images
  pub live : k'.live ≡ k.live
  pub owners : (shape_of k').owners ≡ (shape_of k).owners
  pub lent_is : k'.lent ≡ k.lent

pub same_shape : (k k' : Kept) → shape_of k' ≡ shape_of k → SameShape k k'
unfolding shape_of
same_shape k k' e = record {
  thread = ap (λ (s : Shape). s.thread) e;
  images = ap (λ (s : Shape). s.images) e;
  live = ap (λ (s : Shape). s.live) e;
  owners = ap (λ (s : Shape). s.owners) e;
  lent_is = ap (λ (s : Shape). s.lent) e;
}

pub has_seen_still : (k k' : Kept) (seen : List Event) → shape_of k' ≡ shape_of k → HasSeen k seen → HasSeen k' seen
has_seen_still k k' seen e has =
    let same = same_shape k k' e in
    ap (λ (ls : List Linking). instances (loads_of ls) seen) same.images ∙ has ∙ sym same.live

pub first-stack : (a b : Range Byte) (rest more : List (Range Byte)) → a ∷ rest ≡ b ∷ more
    → (a.bytes ≡ b.bytes) × (rest ≡ more)
first-stack a b rest more e = (cc, cc)

behind-lent : (lent_word : Option ℕ) (a b : Range Byte) (rest more : List (Range Byte))
    → with_lent lent_word (a ∷ rest) ≡ with_lent lent_word (b ∷ more) → (a.bytes ≡ b.bytes) × (rest ≡ more)
behind-lent None a b rest more e = first-stack a b rest more e
behind-lent (Some number) a b rest more e =
    first-stack a b rest more (first-stack (lent_range number) (lent_range number) (a ∷ rest) (b ∷ more) e).1

space-parts : (m : Memory) (seen : List Event) (stack : List Byte) (own : List (Range Byte)) → m.seen ≡ seen
    → m.stack ≡ stack → m.own ≡ own
    → m ≡ record { seen = seen; stack = stack; own = own }
space-parts m seen stack own e f g = rw (sym e, sym f, sym g) refl

-- a memory whose ranges the code has is its own
pub space_is : (k k' : Kept) (seen : List Event) (m : Memory) → HasSeen k seen → shape_of k' ≡ shape_of k
    → m.seen ≡ seen
    → memory_of k' ≡ image_at k.images k.thread k.lent m → m ≡ space_at seen k'
space_is k k' seen m has shape sees e =
    let same = same_shape k k' shape in
    let own = memory_is k' seen (has_seen_still k k' seen shape has) in
    let alike : image_at k'.images k'.thread k'.lent (space_at seen k')
    ≡ image_at k.images k.thread k.lent (space_at seen k') =
    rw (same.images, same.thread, same.lent_is) refl in
    let ranges = ap (λ (s : AddressSpace Byte). s.ranges) (sym alike ∙ sym own ∙ e) in
    let parts = behind-lent k.lent _ _ _ _ ranges in
    let fixed : fixed_seen k.images k.thread k.lent seen ≡ fixed_seen k.images k.thread k.lent m.seen =
    ap (fixed_seen k.images k.thread k.lent) (sym sees) in
    let owns : ranges_in k'.own ++ fixed_seen k.images k.thread k.lent m.seen ≡ m.own
    ++ fixed_seen k.images k.thread k.lent m.seen =
    ap (λ (rest : List (Range Byte)). ranges_in k'.own ++ rest) (sym fixed) ∙ parts.1 in
    space-parts m seen k'.stack _ sees (sym parts.0)
    (sym (append_cancel_right _ _ (fixed_seen k.images k.thread k.lent m.seen) owns))

-- the meaning's thread keeps then what the code keeps
pub held_is : (k k' : Kept) (seen : List Event) (state state' : State Word Flag) (m : Memory) → HasSeen k seen
    → shape_of k' ≡ shape_of k
    → m.seen ≡ seen → memory_of k' ≡ image_at k.images k.thread k.lent m
    → record (held_at seen state k) { after = left state' m } ≡ held_at seen state' k'
unfolding shape_of
held_is k k' seen state state' m has shape sees e =
    let owners : (shape_of k).owners ≡ (shape_of k').owners = sym (same_shape k k' shape).owners in
    ap (λ (m : Memory). record (held_at seen state k) { after = left state' m }) (space_is k k' seen m has shape sees e)
    ∙ ap (λ (owners : List Owner). record
    { after = left state' (space_at seen k'); owners = owners; asked = None }) owners

-- ** no instruction changes the events that were seen

module _ (ls : List Linking) (thread : ℕ) (lent_word : Option ℕ) (seen : List Event) where
  abbrev seeing : Memory → Memory
  seeing m = record m { seen = seen }

  put-seeing : (b : Bool) (m : Memory) (place : ℕ) (byte : Byte) (own : List (Range Byte))
      → (if b then record (seeing m) { stack = slice_set m.stack (place - stack_start thread) byte }
      else record (seeing m) { own = own })
      ≡ seeing (if b then record m { stack = slice_set m.stack (place - stack_start thread) byte }
      else record m { own = own })
  put-seeing true m place byte own = refl
  put-seeing false m place byte own = refl

  abbrev seen-accesses : Accesses Memory Byte
  seen-accesses = space_accesses ops (stack_start thread)
      (λ (_ : List Event). pointer_word ops thread ∷ fixed_at (loads_of ls) seen)

seeing-image : (ls : List Linking) (thread : ℕ) (lent_word : Option ℕ) (seen : List Event)
    → IsImage (lent ops (seen-accesses ls thread lent_word seen) lent_word)
    (lent ops (meant_accesses (meaning_of ls) thread) lent_word) (seeing ls thread lent_word seen)
unfolding space_accesses meant_accesses meaning_of
seeing-image ls thread None seen = record {
  byte = λ m place. refl;
  writes = λ m place. refl;
  put = λ m place byte. put-seeing ls thread None seen
      (grants Write (stack_range (stack_start thread) m.stack) place) m place byte _;
  code = λ m place. refl;
}
seeing-image ls thread (Some number) seen = record {
  byte = λ m place. refl;
  writes = λ m place. refl;
  put = λ m place byte. put-seeing ls thread (Some number) seen
      (grants Write (stack_range (stack_start thread) m.stack) place) m place byte _;
  code = λ m place. refl;
}

abbrev seen-left : Result (After Word Flag Memory) Stop → List Event
seen-left (Ok after) = after.memory.seen
seen-left (Err stop) = []

sees-mapped : (ls : List Linking) (thread : ℕ) (lent_word : Option ℕ) (seen : List Event)
    (result : Result (After Word Flag Memory) Stop) (after : After Word Flag Memory)
    → Ok after ≡ mapped (seeing ls thread lent_word seen) result → after.memory.seen ≡ seen
sees-mapped ls thread lent_word seen (Ok at) after e = ap seen-left e
sees-mapped ls thread lent_word seen (Err stop) after e = cc

-- what an instruction leaves was seen where it began
pub act_sees : (ls : List Linking) (thread : ℕ) (lent_word : Option ℕ) (frame : Frame) (operation : Operation)
    (state : State Word Flag)
    (m : Memory) (after : After Word Flag Memory)
    → act ops (lent ops (meant_accesses (meaning_of ls) thread) lent_word) frame operation state m ≡ Ok after
    → after.memory.seen ≡ m.seen
act_sees ls thread lent_word frame operation state m after e =
    sees-mapped ls thread lent_word m.seen
    (act ops (lent ops (seen-accesses ls thread lent_word m.seen) lent_word) frame operation state m) after
    (sym e ∙ act_image ops _ _ (seeing ls thread lent_word m.seen)
    (seeing-image ls thread lent_word m.seen) frame operation state m)

-- The memories of a thread in a call stay alike under reads and writes, where the linker's own places are closed.
use Rattle.std.proofs.Common.{if◌then◌else◌, ◌≡◌, ◌∙◌, ◌-◌, ◌++◌, ℕ, zero, suc, Bool, true, false, List, [], ◌∷◌, All}
use Rattle.std.proofs.Common.{length, Option, Some, None, refl, sym, ap, subst, arith}
use Rattle.std.specs.Prelude.{slice_set}
use Rattle.std.specs.List.{flat_map, list_any}
use Rattle.std.proofs.lemmas.List.{length-set}
use Rattle.address_map.specs.Map.{stack_start}
use Rattle.guest_arithmetic.specs.Plain.{plain_operations}
use Rattle.guest_operands.specs.declared.space.Access.{Access}
use Rattle.guest_operands.specs.declared.space.Access.TheVariants.{Read, Write}
use Rattle.guest_machine.specs.Access.{Accesses}
use Rattle.guest_operands.specs.Closed.{closed}
use Rattle.guest_machine.specs.Follow.{Alike, StayRelated, Reaches}
use Rattle.guest_machine.specs.Ranges.{Range, byte_in, grants, with_byte}
use Rattle.guest_machine.specs.Run.{is_look}
use Rattle.job_meaning.specs.declared.values.Byte.{Byte}
use Rattle.job_meaning.specs.declared.values.Flag.{Flag}
use Rattle.job_meaning.specs.declared.values.Word.{Word}
use Rattle.job_meaning.specs.Marked.{marked_operations}
use Rattle.loaded_modules.specs.declared.instance.Instance.{Instance}
use Rattle.module_table.specs.declared.events.Event.{Event}
use Rattle.thread_blocks.specs.Held.{Kind, Block, Data, Owner, owned}
use Rattle.thread_blocks.specs.Instances.{Loads, fixed_at, instances}
use Rattle.thread_blocks.specs.MachineTurns.{pointer_word}
use Rattle.thread_blocks.specs.RunTime.{thread_accesses}
use Rattle.thread_blocks.specs.Spaces.{Space, space_accesses, stack_range}
use Rattle.thread_blocks.specs.SpaceLaws.{FoundAlike, NoneWritable, SameRange, SameSpace}
use Rattle.thread_blocks.specs.Turns.{IsFront}
use Rattle.thread_blocks.proofs.Begin.{pointer_word_alike}
use Rattle.thread_blocks.proofs.Spaces.{byte_in-front, spaces_kept}
use Rattle.whole_meaning.specs.Meanings.{Meaning}
use Rattle.whole_meaning.specs.Threads.{Memory, meant_accesses, meant_shut, ops}
use Rattle.tied_meaning.specs.Numbers.{Setting, SameByte, alike}
use Rattle.tied_meaning.specs.Threads.{IsPlaced, IsRangeOf, SameMemory}
use Rattle.tied_meaning.specs.Ties.{AreTied, IsTied}
use Rattle.tied_meaning.proofs.Values.{values_follow}
use Rattle.held_alike.proofs.Looks.{live_same}
use Rattle.call_alike.specs.Laws.{MemoriesStayAlike}
use Rattle.call_alike.proofs.Found.{reads_alike}
use Rattle.call_alike.proofs.Threads.{not_shut}

-- ** what no thread writes

none_writes : {B : Type 0} (xs ys : List (Range B)) (place : ℕ) → NoneWritable xs → byte_in Write ys place ≡ None
    → byte_in Write (xs ++ ys) place ≡ None
none_writes [] ys place none e = e
none_writes (range ∷ xs) ys place none e = rw none.0 (none_writes xs ys place none.1 e)

all_still : {B : Type 0} (fixed : Instance → List (Range B)) (live : List Instance) (place : ℕ)
    → All (λ (x : Instance). NoneWritable (fixed x)) live → byte_in Write (flat_map fixed live) place ≡ None
all_still fixed [] place all = refl
all_still fixed (x ∷ live) place all =
    none_writes (fixed x) (flat_map fixed live) place (all zero x (omega arith))
    (all_still fixed live place (λ k d below. all (suc k) d (omega (arith, below))))

-- ** what is written stays where it is

all_cons : {A : Type 0} (P : A → Type 0) (x : A) (xs : List A) → P x → All P xs → All P (x ∷ xs)
all_cons P x xs p all zero d below = p
all_cons P x xs p all (suc k) d below = all k d (omega (arith, below))

-- one range of those that are written, with a byte put into it
abbrev put_in : {B : Type 0} → Range B → ℕ → B → Range B
put_in range place b = record range { bytes = slice_set range.bytes (place - range.start) b }

module _ (g : Setting) (q : Loads ℕ) (thread : ℕ) where
  set_range : (kind : Kind) (x : Instance) (range : Range ℕ) (bytes : List ℕ) → length bytes ≡ length range.bytes
      → IsRangeOf q thread x kind range → IsRangeOf q thread x kind (record range { bytes = bytes })
  set_range Block x range bytes e h = (ap (λ (r : Range ℕ). record r { bytes = bytes }) h.0, e ∙ h.1)
  set_range Data x range bytes e h =
      (h.0, (h.1.0, (ap (λ (r : Range ℕ). record r { bytes = bytes }) h.1.1.0, e ∙ h.1.1.1)))

  put_placed : (owners : List Owner) (own : List (Range ℕ)) (place b : ℕ)
      → All (IsPlaced g q thread) (owned owners own) → All (IsPlaced g q thread) (owned owners (with_byte own place b))
  put_placed [] own place b placed = λ k d below. absurd (omega (arith, below))
  put_placed (o ∷ owners) [] place b placed = placed
  put_placed (o ∷ owners) (range ∷ own) place b placed =
      of_grant (grants Write range place)
      (put_placed owners own place b (λ k d below. placed (suc k) d (omega (arith, below))))
    where
      of_grant : (c : Bool) → All (IsPlaced g q thread) (owned owners (with_byte own place b))
          → All (IsPlaced g q thread)
          (owned (o ∷ owners) (if c then put_in range place b ∷ own else range ∷ with_byte own place b))
      of_grant true rest =
          let first = placed zero (record { owner = o; range = range }) (omega arith) in
          all_cons (IsPlaced g q thread) _ _ (
            first.0,
            (
              first.1.0,
              set_range o.kind first.0 range _ (length-set range.bytes (place - range.start) b) first.1.1,
            ),
          ) (λ k d below. placed (suc k) d (omega (arith, below)))
      of_grant false rest =
          all_cons (IsPlaced g q thread) _ _ (placed zero (record { owner = o; range = range }) (omega arith)) rest

put_length : {B : Type 0} (own : List (Range B)) (place : ℕ) (b : B) → length (with_byte own place b) ≡ length own
put_length [] place b = refl
put_length (range ∷ own) place b = of_grant (grants Write range place) (put_length own place b)
  where
    of_grant : (c : Bool) → length (with_byte own place b) ≡ length own
        → length (if c then put_in range place b ∷ own else range ∷ with_byte own place b) ≡ suc (length own)
    of_grant true e = refl
    of_grant false e = ap suc e

-- a byte is put into the stack, or into what is written
module _ {B : Type 0} (space : Space Event B) (stack : List B) (own : List (Range B)) where
  abbrev put_either : Bool → Space Event B
  put_either c = if c then record space { stack = stack } else record space { own = own }

  either_seen : (c : Bool) → (put_either c).seen ≡ space.seen
  either_seen true = refl
  either_seen false = refl

  either_deep : (c : Bool) → length stack ≡ length space.stack → length (put_either c).stack ≡ length space.stack
  either_deep true e = e
  either_deep false e = refl

  either_own : (P : List (Range B) → Type 0) (c : Bool) → P space.own → P own → P (put_either c).own
  either_own P true h k = h
  either_own P false h k = k

module _ (g : Setting) (m : Meaning) (q : Loads ℕ) (history : List Event) (thread : ℕ) (tied : AreTied g m q history)
  where
    abbrev Mine : Accesses Memory Byte
    Mine = closed (meant_shut m thread) (meant_accesses m thread)

    module _ (seen : List Event) (front : IsFront seen history) where
      abbrev live : List Instance
      live = instances m.loads seen

      abbrev in_rooms : ℕ → Bool
      in_rooms place = list_any (λ (x : Instance). m.room x place) live

      lives : instances q seen ≡ live
      lives = sym (live_same g m q thread history tied seen)

      tied_live : All (IsTied g m q) live
      tied_live = subst (All (IsTied g m q)) lives (tied.each seen front)

      abbrev meant_fixed : List (Range Byte)
      meant_fixed = pointer_word ops thread ∷ flat_map m.loads.fixed live

      abbrev real_fixed : List (Range ℕ)
      real_fixed = pointer_word plain_operations thread ∷ flat_map q.fixed (instances q seen)

      zero_alike : (alike g).byte (ops.byte 0) (plain_operations.byte 0)
      unfolding alike marked_operations plain_operations
      zero_alike = (refl, omega arith)

      pointers_alike : SameRange (SameByte g) (pointer_word ops thread) (pointer_word plain_operations thread)
      unfolding alike
      pointers_alike =
          pointer_word_alike (alike g) ops plain_operations (values_follow g) zero_alike thread

      behind_pointer : (access : Access) (place : ℕ)
          → FoundAlike (SameByte g) (byte_in access (flat_map m.loads.fixed live) place)
          (byte_in access (flat_map q.fixed (instances q seen)) place)
          → FoundAlike (SameByte g) (byte_in access meant_fixed place) (byte_in access real_fixed place)
      behind_pointer access place h =
          byte_in-front (SameByte g) access (pointer_word ops thread ∷ []) (flat_map m.loads.fixed live)
          (pointer_word plain_operations thread ∷ []) (flat_map q.fixed (instances q seen)) place
          (pointers_alike, tt) h

      fixed_read : (place : ℕ) → in_rooms place ≡ false
          → FoundAlike (SameByte g) (byte_in Read meant_fixed place) (byte_in Read real_fixed place)
      fixed_read place out = behind_pointer Read place
          (subst (λ (xs : List Instance). FoundAlike (SameByte g) (byte_in Read (flat_map m.loads.fixed live) place)
          (byte_in Read (flat_map q.fixed xs) place)) (sym lives) (reads_alike g m q live tied_live place out))

      fixed_write : (place : ℕ)
          → FoundAlike (SameByte g) (byte_in Write meant_fixed place) (byte_in Write real_fixed place)
      fixed_write place = behind_pointer Write place
          (rw (
            all_still m.loads.fixed live place (λ k d below. (tied_live k d below).meant_still),
            all_still q.fixed (instances q seen) place (λ k d below. (tied.each seen front k d below).still),
          ) tt)

      -- with what is fixed at these events, whatever a memory has seen
      whole_kept : StayRelated (alike g)
          (closed (λ space place. if is_look place then true else in_rooms place)
          (space_accesses ops (stack_start thread) (λ (e : List Event). meant_fixed)))
          (space_accesses plain_operations (stack_start thread) (λ (e : List Event). real_fixed))
          (SameSpace {E = Event} (SameByte g))
      unfolding alike
      whole_kept =
          spaces_kept (alike g) ops plain_operations (stack_start thread) (λ (e : List Event). meant_fixed)
          (λ (e : List Event). real_fixed) (λ (e : List Event) place. if is_look place then true else in_rooms place)
          (λ e place out. fixed_read place (not_shut (is_look place) (in_rooms place) out))
          (λ e place out. fixed_write place)

    -- ** a write changes no right to write

    any_alike : Alike Word Flag Byte Word Flag Byte
    any_alike = record {
      word = λ a b. Unit {0};
      flag = λ a b. Unit {0};
      byte = λ a b. Unit {0};
      field = λ a b c d. Unit {0};
    }

    found_itself : (o : Option Byte) → FoundAlike (λ (a b : Byte). Unit {0}) o o
    found_itself None = tt
    found_itself (Some b) = tt

    rights_kept : (s : Memory) (place at : ℕ) (b : Byte) → Mine.writes (Mine.put s place b) at ≡ Mine.writes s at
    unfolding meant_accesses space_accesses any_alike
    rights_kept s place at b =
        (spaces_kept {E = Event} any_alike ops ops (stack_start thread)
        (λ e. pointer_word ops thread ∷ fixed_at m.loads e) (λ e. pointer_word ops thread ∷ fixed_at m.loads e)
        (λ e p. if is_look p then true else list_any (λ (x : Instance). m.room x p) (instances m.loads e))
        (λ e p out. found_itself _) (λ e p out. found_itself _)).still s place at b

    module _ (owners : List Owner) (seen : List Event) (front : IsFront seen history) where
      abbrev Same : Memory → Space Event ℕ → Type 0
      Same = SameMemory g m q history thread owners seen

      front_of : (s : Memory) (s' : Space Event ℕ) → Same s s' → IsFront s.seen history
      front_of s s' h = subst (λ (e : List Event). IsFront e history) (sym h.events) front

      pub memory_kept : StayRelated (alike g) Mine (thread_accesses q thread) Same
      unfolding meant_accesses thread_accesses space_accesses fixed_at
      memory_kept = record {
        byte = λ s s' h place.
            subst (λ (e : List Event). Reaches (alike g).byte (Mine.byte s place)
            ((thread_accesses q thread).byte (record s' { seen = e }) place)) (sym h.space.seen)
            ((whole_kept s.seen (front_of s s' h)).byte s s' h.space place);
        writes = λ s s' h place.
            subst (λ (e : List Event). Reaches (λ (a b : Unit {0}). Unit {0}) (Mine.writes s place)
            ((thread_accesses q thread).writes (record s' { seen = e }) place)) (sym h.space.seen)
            ((whole_kept s.seen (front_of s s' h)).writes s s' h.space place);
        put = λ s s' h place b b' k allowed. record {
          space = (whole_kept s.seen (front_of s s' h)).put s s' h.space place b b' k allowed;
          events = either_seen s _ _ (grants Write (stack_range (stack_start thread) s.stack) place) ∙ h.events;
          placed = either_own s' _ _ (λ (own : List (Range ℕ)). All (IsPlaced g q thread) (owned owners own))
              (grants Write (stack_range (stack_start thread) s'.stack) place) h.placed
              (put_placed g q thread owners s'.own place b' h.placed);
          paired = either_own s' _ _ (λ (own : List (Range ℕ)). length owners ≡ length own)
              (grants Write (stack_range (stack_start thread) s'.stack) place) h.paired
              (h.paired ∙ sym (put_length s'.own place b'));
          deep = either_deep s _ _ (grants Write (stack_range (stack_start thread) s.stack) place)
              (length-set s.stack (place - stack_start thread) b) ∙ h.deep;
        };
        still = λ s place at b. rights_kept s place at b;
      }

-- ** the law

pub memories_alike : MemoriesStayAlike
memories_alike g m q history thread tied owners seen front = memory_kept g m q history thread tied owners seen front

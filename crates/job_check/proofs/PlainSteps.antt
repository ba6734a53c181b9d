-- The step of an instruction, as the code makes it.
use Rattle.std.proofs.Common.{◌≡◌, ℕ, zero, suc, ◌-◌, ◌==◌, Bool, true, false, List, Option, Some, None, Result, Ok}
use Rattle.std.proofs.Common.{Err, arith, is_some, not, take, refl, sym, ap, ◌∙◌}
use Rattle.std.specs.Prelude.{if◌then◌else◌, ◌&&◌, is_err, ok_or}
use Rattle.std.specs.List.{find, list_any}
use Rattle.address_map.specs.Map.{owner_at}
use Rattle.amd64_subset.specs.declared.instr.Decoded.{Decoded}
use Rattle.amd64_subset.specs.Decoding.{decoded}
use Rattle.guest_arithmetic.specs.declared.cause.Cause.{Cause}
use Rattle.guest_machine.specs.declared.touch.Direction.{Direction}
use Rattle.guest_machine.specs.declared.touch.Direction.TheVariants.{Load, Store}
use Rattle.guest_machine.specs.declared.touch.Touches.{Touches}
use Rattle.guest_machine.specs.Run.{is_look, next_of}
use Rattle.guest_machine.specs.Touch.{refuses, touched}
use Rattle.guest_operands.specs.declared.space.Access.TheVariants.{Write}
use Rattle.guest_operands.specs.declared.state.State.{State}
use Rattle.guest_operands.specs.declared.stop.Stop.{Stop}
use Rattle.guest_operands.specs.declared.stop.Stop.TheVariants.{Unclean}
use Rattle.guest_operands.specs.Access.{Accesses, Refusal, Refused, Shut, both_reached, bytes_at, fetch_of, load_of}
use Rattle.guest_operands.specs.Access.{next_place, reached}
use Rattle.guest_operands.specs.Ranges.{AddressSpace, byte_in}
use Rattle.guest_operands.specs.RangeLaws.{range_accesses}
use Rattle.guest_operands.specs.Use.{After, left, there}
use Rattle.job_meaning.specs.declared.values.Byte.{Byte}
use Rattle.job_meaning.specs.declared.values.Flag.{Flag}
use Rattle.job_meaning.specs.declared.values.Word.{Word}
use Rattle.job_meaning.specs.Reading.{beside_linker, linker_with}
use Rattle.loaded_modules.specs.declared.instance.Instance.{Instance}
use Rattle.module_table.specs.declared.events.Event.{Event}
use Rattle.thread_blocks.specs.SpaceLaws.{IsImage}
use Rattle.whole_meaning.specs.declared.marks.Mark.{Mark}
use Rattle.whole_meaning.specs.Loads.{meaning_of}
use Rattle.whole_meaning.specs.Reading.{done, hindrance, marked_step, own_touches, plain_step, reaches_linker}
use Rattle.whole_meaning.specs.Threads.{Memory, meant_accesses, meant_mark, meant_shut, ops}
use Rattle.job_check.specs.declared.step.Stepped.{Stepped}
use Rattle.job_check.specs.declared.step.Stepped.TheVariants.{Ends}
use Rattle.marked_memory.specs.Kept.{HasSeen, Kept, mark_in, memory_of, shut_in}
use Rattle.job_check.specs.Stepping.{Makes, StepsAs, code_in, done_in, linker_in, next_as, plain_next, space_of}
use Rattle.job_check.specs.Stepping.{stepped_of}
use Rattle.job_check.proofs.Memories.{fetch_image, touched_image}
use Rattle.marked_memory.proofs.SpaceImages.{image_at, lent_image, memory_is}
use Rattle.job_check.proofs.SequencesMade.{next_made, stays_made}
use Rattle.std.specs.Option.{option_map_or}
use Rattle.whole_meaning.specs.declared.marks.Mark.TheVariants.{Usual}

-- ** accesses that are refused

both-writes : (found : Option Byte) (rest : Result (Unit {0}) Refusal)
    → not (is_err (both_reached (λ (a b : Unit {0}). tt {0})
    (reached (λ (byte : Byte). tt {0}) (ok_or found Refused)) rest)) ≡ (is_some found && not (is_err rest))
both-writes None (Ok done) = refl
both-writes None (Err why) = refl
both-writes (Some byte) (Ok done) = refl
both-writes (Some byte) (Err why) = refl

module _ (m : AddressSpace Byte) (place : ℕ) where
  write-more : (size : ℕ) → (size ≡ 0 → ⊥)
      → not (refuses (range_accesses ops) m Store place size)
      ≡ (is_some (byte_in Write m.ranges place)
      && not (refuses (range_accesses ops) m Store (next_place place) (size - 1)))
  unfolding range_accesses
  write-more zero some = absurd (some refl)
  write-more (suc n) some = let e : suc n - 1 ≡ n = omega arith in rw e (both-writes (byte_in Write m.ranges place) _)

  pub may_write_then : (size next less : ℕ) (first rest : Bool) → (size ≡ 0 → ⊥) → next ≡ next_place place
      → less ≡ size - 1 → first ≡ is_some (byte_in Write m.ranges place)
      → rest ≡ not (refuses (range_accesses ops) m Store next less) → first ≡ true
      → rest ≡ not (refuses (range_accesses ops) m Store place size)
  may_write_then size next less first rest some a b found is here =
      (rw (a, b) at is)
      ∙ sym (write-more size some
      ∙ ap (λ (first : Bool). first && not (refuses (range_accesses ops) m Store (next_place place) (size - 1)))
      (sym found ∙ here))

  pub may_write_else : (size : ℕ) (first : Bool) → (size ≡ 0 → ⊥) → first ≡ is_some (byte_in Write m.ranges place)
      → first ≡ false → first ≡ not (refuses (range_accesses ops) m Store place size)
  may_write_else size first some found here = here
      ∙ sym (write-more size some
      ∙ ap (λ (first : Bool). first && not (refuses (range_accesses ops) m Store (next_place place) (size - 1)))
      (sym found ∙ here))

load-there : (here : ℕ) (r : Result (List Byte) Refusal) (f : List Byte → Word)
    → is_err (there here (reached f r)) ≡ is_err r
load-there here (Ok bytes) f = refl
load-there here (Err Refused) f = refl
load-there here (Err Shut) f = refl

pub load_refused : (m : AddressSpace Byte) (here address size : ℕ) (word : Result Word Stop) (direction : Direction)
    → direction ≡ Load
    → word ≡ there here (load_of ops (range_accesses ops) m address size)
    → is_err word ≡ refuses (range_accesses ops) m direction address size
unfolding load_of
load_refused m here address size word direction e is =
    rw e (ap (λ (word : Result Word Stop). is_err word) is
    ∙ load-there here (bytes_at (range_accesses ops) m address size) ops.joined)

-- ** code and what is the linker's own

pub code_read : (k : Kept) (place count n : ℕ) (buffer : List ℕ) → n ≡ count
    → take count buffer ≡ fetch_of (range_accesses ops) (memory_of k) place
    → take n buffer ≡ code_in k place
unfolding code_in
code_read k place count n buffer e is = rw e is

pub mark_is : (k : Kept) (seen : List Event) → HasSeen k seen
    → meant_mark (meaning_of k.images) k.thread (space_of seen k) ≡ mark_in k
unfolding mark_in meaning_of
mark_is k seen has = ap {B = ℕ → Mark}
    (λ (live : List Instance) (place : ℕ). option_map_or (λ (x : Instance). (meaning_of k.images).mark x place)
    (find (λ (x : Instance). x.number == owner_at place) live) Usual) has

pub shut_is : (k : Kept) (seen : List Event) → HasSeen k seen
    → meant_shut (meaning_of k.images) k.thread (space_of seen k) ≡ shut_in k
unfolding shut_in meaning_of
shut_is k seen has = ap {B = ℕ → Bool}
    (λ (live : List Instance) (place : ℕ). if is_look place then true
    else list_any (λ x. (meaning_of k.images).room x place) live) has

-- ** memory

module _ (k : Kept) (seen : List Event) (has : HasSeen k seen) (none : k.lent ≡ None) where
  plain-image : IsImage (meant_accesses (meaning_of k.images) k.thread) (range_accesses ops)
      (image_at k.images k.thread None)
  plain-image = lent_image k.images k.thread None

  plain-memory : memory_of k ≡ image_at k.images k.thread None (space_of seen k)
  plain-memory = memory_is k seen has ∙ ap (λ (word : Option ℕ). image_at k.images k.thread word (space_of seen k)) none

  code_is : (place : ℕ) → fetch_of (meant_accesses (meaning_of k.images) k.thread) (space_of seen k) place
      ≡ code_in k place
  unfolding code_in
  code_is place = sym (ap (λ (m : AddressSpace Byte). fetch_of (range_accesses ops) m place) plain-memory
      ∙ fetch_image (meant_accesses (meaning_of k.images) k.thread) (range_accesses ops)
      (image_at k.images k.thread None) plain-image (space_of seen k) place)

  touched_is : (it : Touches)
      → touched (meant_accesses (meaning_of k.images) k.thread) (space_of seen k) it
      ≡ touched (range_accesses ops) (memory_of k) it
  touched_is it = sym (ap (λ (m : AddressSpace Byte). touched (range_accesses ops) m it) plain-memory
      ∙ touched_image (meant_accesses (meaning_of k.images) k.thread) (range_accesses ops)
      (image_at k.images k.thread None) plain-image it (space_of seen k))

-- ** the step

module _ (state : State Word Flag) (memory : Memory) (place-touches : List ℕ) where
  -- the same step, by what was fetched, marked and touched
  step-by : (acc : Accesses Memory Byte) (mark mark' : ℕ → Mark) (shut shut' : ℕ → Bool) (code : List ℕ) → mark ≡ mark'
      → shut ≡ shut' → fetch_of acc memory state.place ≡ code
      → touched acc memory (own_touches ops mark' state (decoded code)) ≡ place-touches
      → marked_step ops acc mark shut state memory
      ≡ beside_linker (if shut' state.place then true else list_any shut' place-touches) state.place
      (done ops acc mark' (hindrance ops mark' state code) (decoded code) state memory)
  unfolding marked_step reaches_linker plain_step
  step-by acc mark mark' shut shut' code a b c d = rw (a, b, c, d) refl

marked-step : (state : State Word Flag) (k : Kept) (seen : List Event) → HasSeen k seen → k.lent ≡ None
    → plain_next state k seen ≡ next_of (beside_linker (linker_in state k (decoded (code_in k state.place))) state.place
    (done_in (hindrance ops (mark_in k) state (code_in k state.place)) (decoded (code_in k state.place)) state k seen))
unfolding linker_in
marked-step state k seen has none =
    ap next_of (step-by state (space_of seen k) _ (meant_accesses (meaning_of k.images) k.thread) _ (mark_in k) _
    (shut_in k) (code_in k state.place)
    (mark_is k seen has) (shut_is k seen has) (code_is k seen has none state.place) (touched_is k seen has none _))

module _ (state state' : State Word Flag) (k k' : Kept) (none : k.lent ≡ None) (why : Option Cause)
    (it : Option Decoded)
    (why-is : why ≡ hindrance ops (mark_in k) state (code_in k state.place))
    (it-is : it ≡ decoded (code_in k state.place)) where
  plain-step : (seen : List Event) → HasSeen k seen
      → plain_next state k seen
      ≡ next_of (beside_linker (linker_in state k it) state.place (done_in why it state k seen))
  plain-step seen has = rw (why-is, it-is) (marked-step state k seen has none)

  pub plain_goes : (result : Result (Unit {0}) Stop) (stepped : Stepped) → linker_in state k it ≡ false
      → Makes result state k state' k' (done_in why it state k)
      → stepped ≡ stepped_of result → StepsAs stepped state k state' k' (plain_next state k)
  plain_goes result stepped apart makes e = rw e (record {
    shape = makes.shape;
    stays = stays_made k k' state state' result makes.stays;
    steps = λ seen has. plain-step seen has
        ∙ ap (λ (reaches : Bool). next_of (beside_linker reaches state.place (done_in why it state k seen))) apart
        ∙ ap next_of (makes.makes seen has) ∙ next_made result (left state' (space_of seen k'));
  })

module _ (state : State Word Flag) (k : Kept) (none : k.lent ≡ None) (why : Option Cause) (it : Option Decoded)
    (why-is : why ≡ hindrance ops (mark_in k) state (code_in k state.place))
    (it-is : it ≡ decoded (code_in k state.place)) where
  pub plain_ends : (stop : Stop) → linker_in state k it ≡ true
      → ((seen : List Event) → HasSeen k seen → stop ≡ Unclean state.place (linker_with (done_in why it state k seen)))
      → StepsAs (Ends stop) state k state k (plain_next state k)
  plain_ends stop reaches is = record {
    shape = refl;
    stays = (refl, refl);
    steps = λ seen has. plain-step state state k k none why it why-is it-is seen has
        ∙ ap (λ (reaches : Bool). next_of (beside_linker reaches state.place (done_in why it state k seen))) reaches
        ∙ ap (λ (stop : Stop). next_as (Ends stop) (left state (space_of seen k))) (sym (is seen has));
  }

-- ** an instruction that is not done

pub stops : (stop : Stop) (state : State Word Flag) (k : Kept)
    (meant : List Event → Result (After Word Flag Memory) Stop)
    → ((seen : List Event) → meant seen ≡ Err stop) → Makes (Err stop) state k state k meant
stops stop state k meant is = record { shape = refl; stays = (refl, refl); makes = λ seen has. is seen }

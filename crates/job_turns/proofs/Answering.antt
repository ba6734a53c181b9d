-- What is asked for and answered over the code's ranges, is asked for and answered over a thread's space.
use Rattle.std.proofs.Common.{◌≡◌, ◌+◌, ◌==◌, ℕ, zero, suc, Bool, true, false, List, ◌∷◌, Option, Some, None, Result}
use Rattle.std.proofs.Common.{Ok, Err, IsErr, refl, sym, ap, ◌∙◌, subst}
use Rattle.std.specs.Prelude.{if◌then◌else◌, ok_or}
use Rattle.std.specs.List.{find, list_any}
use Rattle.address_map.specs.Map.{stack_start}
use Rattle.guest_arithmetic.specs.Plain.{plain_operations}
use Rattle.guest_operands.specs.declared.state.State.{State}
use Rattle.guest_operands.specs.declared.stop.Stop.{Stop}
use Rattle.guest_operands.specs.declared.stop.Stop.TheVariants.{Address}
use Rattle.guest_operands.specs.Access.{Accesses, Refusal, Refused, Shut, both_reached, bytes_at, load_of, next_place}
use Rattle.guest_operands.specs.Access.{reached as reached_so}
use Rattle.guest_operands.specs.Ranges.{AddressSpace}
use Rattle.guest_operands.specs.RangeLaws.{range_accesses}
use Rattle.guest_operands.specs.Use.{◌>>=◌, After, left, there}
use Rattle.guest_machine.specs.Machine.{Answers, Standing, answer_of}
use Rattle.guest_machine.specs.Step.{return_of}
use Rattle.loaded_modules.specs.declared.instance.Instance.{Instance}
use Rattle.loaded_modules.specs.Images.{infos}
use Rattle.module_table.specs.declared.events.Event.{Event}
use Rattle.module_table.specs.Past.{Past}
use Rattle.thread_blocks.specs.Instances.{instances, instances_in}
use Rattle.thread_blocks.specs.JobLoads.{job_loads}
use Rattle.thread_blocks.specs.RunTime.{asked_at, asked_by, asked_of, has_words, pair, thread_accesses, word_at}
use Rattle.thread_blocks.specs.Spaces.{Space, address_space_of, space_accesses}
use Rattle.thread_blocks.specs.SpaceLaws.{after_of, mapped}
use Rattle.thread_blocks.proofs.Spaces.{space_image}
use Rattle.thread_space.specs.Kept.{HasSeen, Kept, live_in, memory_of, shape_of}
use Rattle.job_turns.specs.Running.{asked_from, asked_in, asker_in, space_in, word_in}
use Rattle.job_turns.proofs.SpaceRuns.{fixed_seen, memory_is, none_fixed, space_is}
use Rattle.guest_arithmetic.specs.Values.{number_from}

-- ** instances

pub live_seen : (k : Kept) (seen : List Event) → HasSeen k.vector seen
    → instances (job_loads k.vector.images) seen ≡ live_in k.vector.images k.vector.past
unfolding job_loads
live_seen k seen has = ap (λ (p : Past). instances_in (infos k.vector.images) p) has

-- ** words

module _ (k : Kept) (seen : List Event) (has : HasSeen k.vector seen) where
  abbrev space-accesses : Accesses (Space Event ℕ) ℕ
  space-accesses = space_accesses plain_operations (stack_start k.vector.thread)
      (fixed_seen k.vector.images k.vector.thread)

  byte-same : (place : ℕ)
      → (range_accesses plain_operations).byte (memory_of k) place ≡ space-accesses.byte (space_in seen k) place
  byte-same place =
      ap (λ (m : AddressSpace ℕ). (range_accesses plain_operations).byte m place) (memory_is k seen has)
      ∙ (space_image plain_operations (stack_start k.vector.thread) (fixed_seen k.vector.images k.vector.thread)
      (none_fixed k.vector.images k.vector.thread)).byte (space_in seen k) place

  bytes-same : (size place : ℕ)
      → bytes_at (range_accesses plain_operations) (memory_of k) place size
      ≡ bytes_at space-accesses (space_in seen k) place size
  bytes-same zero place = refl
  bytes-same (suc size) place = rw (byte-same place, bytes-same size (next_place place)) refl

  word-same : (address : ℕ)
      → word_in k address 8 ≡ word_at (job_loads k.vector.images) k.vector.thread (space_in seen k) address
  unfolding thread_accesses
  word-same address = ap (reached_so number_from) (bytes-same 8 address)

  from-same : (is_descriptor : Bool) (address : ℕ) (found : Option Instance)
      → asked_of (job_loads k.vector.images) k.vector.thread (space_in seen k) is_descriptor address found
      ≡ asked_from k is_descriptor address found
  from-same is_descriptor address None = refl
  from-same is_descriptor address (Some x) =
      ap (λ words. asked_by (job_loads k.vector.images) k.vector.thread x is_descriptor words)
      (sym (ap (λ first. both_reached pair first (word_in k (address + 8) 8)) (word-same address)
      ∙ ap (λ second. both_reached pair
      (word_at (job_loads k.vector.images) k.vector.thread (space_in seen k) address) second)
      (word-same (address + 8))))

  -- the law of what is asked for
  pub asked_is : (state : State ℕ Bool)
      → asked_at (job_loads k.vector.images) k.vector.thread (left state (space_in seen k)) ≡ asked_in k state
  unfolding asked_in
  asked_is state =
      let is_descriptor = state.place == 0x1800 in
      let address = if is_descriptor then state.registers.rax else state.registers.rdi in
      ap (λ live. asked_of (job_loads k.vector.images) k.vector.thread (space_in seen k) is_descriptor address
      (find (λ (x : Instance). list_any (has_words address) ((job_loads k.vector.images).tables x)) live))
      (live_seen k seen has)
      ∙ from-same is_descriptor address (asker_in k address)

-- ** answers

-- nothing of a thread's memory is the linker's own
abbrev pub NotShut : {A : Type 0} → Result A Refusal → Type 0
NotShut (Ok a) = Unit {0}
NotShut (Err Refused) = Unit {0}
NotShut (Err Shut) = ⊥

pub byte-open : (byte : Option ℕ) → NotShut (ok_or byte Refused)
byte-open None = tt
byte-open (Some byte) = tt

pub both-open : {A C D : Type 0} (f : A → C → D) (a : Result A Refusal) (c : Result C Refusal) → NotShut a → NotShut c
    → NotShut (both_reached f a c)
both-open f (Ok a) (Ok c) g h = tt
both-open f (Ok a) (Err Refused) g h = tt
both-open f (Ok a) (Err Shut) g h = h
both-open f (Err Shut) c g h = absurd g
both-open f (Err Refused) c g h = tt

reached-open : {A C : Type 0} (f : A → C) (a : Result A Refusal) → NotShut a → NotShut (reached_so f a)
reached-open f (Ok a) g = tt
reached-open f (Err Refused) g = tt
reached-open f (Err Shut) g = g

-- a return loads a word, and leaves the memory
abbrev IsReturn : {M : Type 0} → ℕ → M → Result (After ℕ Bool M) Stop → Type 0
IsReturn place m (Ok after) = after.memory ≡ m
IsReturn place m (Err stop) = stop ≡ Address place

return-is : {M : Type 0} (place : ℕ) (m : M) (load : Result ℕ Refusal) (f : ℕ → State ℕ Bool) → NotShut load
    → IsReturn place m (there place load >>= (λ word. Ok (left (f word) m)))
return-is place m (Ok word) f g = refl
return-is place m (Err Refused) f g = refl
return-is place m (Err Shut) f g = absurd g

return-image : {M M' : Type 0} (image : M → M') (place : ℕ) (m : M) (load : Result ℕ Refusal) (f : ℕ → State ℕ Bool)
    → (there place load >>= (λ word. Ok (left (f word) (image m))))
    ≡ mapped image (there place load >>= (λ word. Ok (left (f word) m)))
return-image image place m (Ok word) f = refl
return-image image place m (Err Refused) f = refl
return-image image place m (Err Shut) f = refl

-- of two results that are each other's images
taken-from : {M M' : Type 0} (image : M → M') (r : Result (After ℕ Bool M) Stop) (state : State ℕ Bool) (m : M)
    (m' : M') (place : ℕ)
    → IsReturn place m r → mapped image r ≡ Ok (left state m') → (image m ≡ m') × (r ≡ Ok (left state m))
taken-from image (Ok after) state m m' place is e =
    let both : after_of image after ≡ left state m' = cc in
    let memory : image after.memory ≡ m' = ap (λ a. a.memory) both in
    let own : after.state ≡ state = ap (λ a. a.state) both in
    (ap image (sym is) ∙ memory, ap Ok (rw (sym own, sym is) refl))
taken-from image (Err stop) state m m' place is e = cc

refused-from : {M M' : Type 0} (image : M → M') (r : Result (After ℕ Bool M) Stop) (m : M) (place : ℕ)
    → IsReturn place m r → IsErr (mapped image r) → r ≡ Err (Address place)
refused-from image (Ok after) m place is e = cc
refused-from image (Err stop) m place is e = ap Err is

module _ (k : Kept) (seen : List Event) (has : HasSeen k.vector seen) (word : ℕ) (state : State ℕ Bool) where
  abbrev over-space : Result (After ℕ Bool (Space Event ℕ)) Stop
  over-space = answer_of plain_operations (thread_accesses (job_loads k.vector.images) k.vector.thread) word state
      (space_in seen k)

  abbrev image-of : Space Event ℕ → AddressSpace ℕ
  image-of = address_space_of (stack_start k.vector.thread) (fixed_seen k.vector.images k.vector.thread)

  space-open : (size place : ℕ) → NotShut (bytes_at (space-accesses k seen has) (space_in seen k) place size)
  unfolding space_accesses
  space-open zero place = tt
  space-open (suc size) place = both-open ◌∷◌ _ _ (byte-open _) (space-open size (next_place place))

  over-is : IsReturn state.place (space_in seen k) over-space
  unfolding thread_accesses return_of load_of plain_operations
  over-is = return-is state.place (space_in seen k) _ _ (reached-open _ _ (space-open 8 state.registers.rsp))

  range-is : answer_of plain_operations (range_accesses plain_operations) word state (memory_of k)
      ≡ mapped image-of over-space
  unfolding thread_accesses return_of load_of plain_operations
  range-is = rw (bytes-same k seen has 8 state.registers.rsp, memory_is k seen has)
      (return-image image-of state.place (space_in seen k) _ _)

-- the law of an answer that is made
pub answer_made : (k : Kept) (seen : List Event) → HasSeen k.vector seen
    → (word : ℕ) (m m' : Standing ℕ Bool) (k' : Kept) → shape_of k' ≡ shape_of k
    → Answers true m (memory_of k) m' (memory_of k')
    (answer_of plain_operations (range_accesses plain_operations) word m.state (memory_of k))
    → answer_of plain_operations (thread_accesses (job_loads k.vector.images) k.vector.thread) word m.state
    (space_in seen k) ≡ Ok (left m'.state (space_in seen k'))
answer_made k seen has word m m' k' shape answers =
    let both = taken-from (image-of k seen has word m.state) (over-space k seen has word m.state) m'.state
    (space_in seen k) (memory_of k') m.state.place (over-is k seen has word m.state)
    (sym (range-is k seen has word m.state) ∙ answers.0) in
    both.1 ∙ ap (λ (s : Space Event ℕ). Ok (left m'.state s))
    (space_is k k' seen (space_in seen k) has shape refl (sym both.0))

-- and of one that is refused
pub answer_refused : (k : Kept) (seen : List Event) → HasSeen k.vector seen
    → (word : ℕ) (m m' : Standing ℕ Bool) (k' : Kept) → shape_of k' ≡ shape_of k
    → Answers false m (memory_of k) m' (memory_of k')
    (answer_of plain_operations (range_accesses plain_operations) word m.state (memory_of k))
    → (answer_of plain_operations (thread_accesses (job_loads k.vector.images) k.vector.thread) word m.state
    (space_in seen k) ≡ Err (Address m.state.place))
    × (space_in seen k' ≡ space_in seen k)
answer_refused k seen has word m m' k' shape answers = (
  refused-from (image-of k seen has word m.state) (over-space k seen has word m.state) (space_in seen k) m.state.place
      (over-is k seen has word m.state)
      (subst IsErr (range-is k seen has word m.state) answers.0),
  sym (space_is k k' seen (space_in seen k) has shape refl (answers.2 ∙ memory_is k seen has)),
)

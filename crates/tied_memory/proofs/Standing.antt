-- Instructions and words that stand in a live instance are what a thread fetches and loads.
use Rattle.std.proofs.Common.{◌≡◌, ◌∙◌, ◌+◌, ◌^◌, ◌<◌, ◌≤◌, ℕ, List, length, Option, Some, Ok, sym, ap, arith}
use Rattle.std.specs.Prelude.{ok_or, option_and_then}
use Rattle.amd64_subset.specs.declared.instr.Decoded.{Decoded}
use Rattle.amd64_subset.specs.Decoding.{decoded}
use Rattle.amd64_subset.specs.Spelling.{IsPlaced as HasPlaces}
use Rattle.amd64_subset.proofs.FieldLaws.{front_lem}
use Rattle.amd64_subset.proofs.Places.{decoded_length, decoded_placed}
use Rattle.guest_arithmetic.specs.Plain.{plain_operations}
use Rattle.guest_arithmetic.specs.Values.{digit}
use Rattle.guest_operands.specs.declared.space.Access.TheVariants.{Read, Run}
use Rattle.guest_machine.specs.Access.{Refused, bytes_at, fetch_of, load_of}
use Rattle.guest_machine.specs.Ranges.{byte_in}
use Rattle.loaded_modules.specs.declared.instance.Instance.{Instance}
use Rattle.module_table.specs.declared.events.Event.{Event}
use Rattle.thread_blocks.specs.Held.{Owner}
use Rattle.thread_blocks.specs.Instances.{Loads, numbered_instance}
use Rattle.thread_blocks.specs.RunTime.{thread_accesses}
use Rattle.thread_blocks.specs.Spaces.{Space, space_accesses}
use Rattle.whole_meaning.specs.Meanings.{Meaning}
use Rattle.tied_meaning.specs.Numbers.{Setting}
use Rattle.tied_meaning.specs.Sites.{HasInstruction, HasWord}
use Rattle.tied_meaning.specs.Ties.{AreTied, IsPlaceOf, IsTied}
use Rattle.tied_memory.specs.Laws.{InstructionsAreFetched, WordsAreLoaded}
use Rattle.tied_memory.specs.Places.{AreInPlace}
use Rattle.tied_memory.proofs.Bytes.{bytes_there, code_there, digit_there, digits, digits_spell_word}
use Rattle.tied_memory.proofs.Found.{fixed_found}
use Rattle.tied_memory.proofs.Live.{tied_at}
use Rattle.tied_memory.proofs.Ranges.{some_there}

-- an instruction stands at a place of its instance
pub stands_at : {g : Setting} {m : Meaning} {q : Loads ℕ} {x : Instance} → IsTied g m q x → {place : ℕ} {d : Decoded}
    → HasInstruction q x place d → IsPlaceOf x place
stands_at {g} {m} {q} {x} it {place} {d} has =
    let long : d.len ≤ length has.bytes = decoded_length has.bytes (Some d) (sym has.read) in
    let placed : HasPlaces d = decoded_placed has.bytes (Some d) (sym has.read) in
    let first = some_there has.bytes 0 (omega (arith, long, placed.some)) in
    it.there Run place first.0
    (ap (byte_in Run (q.fixed x)) (omega arith) ∙ (has.there 0 (omega (arith, placed.some)) ∙ first.1))

module _ {g : Setting} {m : Meaning} {q : Loads ℕ} {history : List Event} {thread : ℕ} (tied : AreTied g m q history)
    (low : 1 ≤ thread) {owners : List Owner} {space : Space Event ℕ}
    (sound : AreInPlace g q history thread owners space) {x : Instance} (it : IsTied g m q x)
    (live : numbered_instance q space.seen x.number ≡ Some x) where
  code_byte_there : (place byte : ℕ) → byte_in Run (q.fixed x) place ≡ Some byte
      → (thread_accesses q thread).code space place ≡ Some byte
  unfolding thread_accesses space_accesses plain_operations
  code_byte_there place byte e =
      ap (option_and_then (λ (b : ℕ). Some b))
      (fixed_found tied low x it.known Run place byte e (it.there Run place byte e) sound live)

  byte_there : (place byte : ℕ) → byte_in Read (q.fixed x) place ≡ Some byte
      → (thread_accesses q thread).byte space place ≡ Ok byte
  unfolding thread_accesses space_accesses plain_operations
  byte_there place byte e =
      ap (λ (o : Option ℕ). ok_or o Refused)
      (fixed_found tied low x it.known Read place byte e (it.there Read place byte e) sound live)

  pub fetched : {place : ℕ} {d : Decoded} → HasInstruction q x place d
      → decoded (fetch_of (thread_accesses q thread) space place) ≡ Some d
  unfolding fetch_of
  fetched {place} {d} has =
      let long : d.len ≤ length has.bytes = decoded_length has.bytes (Some d) (sym has.read) in
      let placed : HasPlaces d = decoded_placed has.bytes (Some d) (sym has.read) in
      let here : IsPlaceOf x place = stands_at it has in
      let code = code_there (thread_accesses q thread) space has.bytes d.len 15 place long placed.most
      (omega (arith, here.1.1, placed.most))
      (λ k below.
      let byte = some_there has.bytes k (omega (arith, below, long)) in
      code_byte_there (place + k) byte.0 (has.there k below ∙ byte.1) ∙ sym byte.1) in
      ap decoded code.1 ∙ front_lem has.bytes code.0 d has.read

  pub bytes_read : (address word : ℕ) → HasWord q x address word
      → bytes_at (thread_accesses q thread) space address 8 ≡ Ok (digits word)
  bytes_read address word has =
      let here : IsPlaceOf x address =
      it.there Read address (digit word 0) (ap (byte_in Read (q.fixed x)) (omega arith) ∙ has 0 (omega arith)) in
      bytes_there (thread_accesses q thread) space (digits word) address (omega (arith, here.1.1))
      (λ k below. byte_there (address + k) (digit word k) (has k below)
      ∙ ap (λ (o : Option ℕ). ok_or o Refused) (sym (digit_there word k below)))

  pub word_read : (address word : ℕ) → HasWord q x address word → word < 2 ^ 64
      → load_of plain_operations (thread_accesses q thread) space address 8 ≡ Ok word
  unfolding load_of plain_operations
  word_read address word has small =
      rw (bytes_read address word has) (ap (λ (n : ℕ). Ok n) (digits_spell_word word small))

-- ** the laws

pub are_fetched : InstructionsAreFetched
are_fetched g m q history thread tied low owners space sound x live place d has =
    fetched tied low sound (tied_at tied space.seen sound.front x.number x live).0 live has

pub are_loaded : WordsAreLoaded
are_loaded g m q history thread tied low owners space sound x live address word has small =
    word_read tied low sound (tied_at tied space.seen sound.front x.number x live).0 live address word has small

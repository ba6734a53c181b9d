-- Numbers and questions that the code reads byte by byte.
use Rattle.std.proofs.Common.{◌≡◌, ◌+◌, ◌*◌, ◌^◌, ◌<◌, ◌≤◌, ℕ, zero, suc, Bool, List, ◌∷◌, Option, Some, None, Result}
use Rattle.std.proofs.Common.{Ok, Err, refl, sym, ap, ◌∙◌, arith}
use Rattle.std.specs.Prelude.{◌==◌, if◌then◌else◌}
use Rattle.std.proofs.lemmas.Nat.{pow-add}
use Rattle.std.proofs.Math.Nat.{pow-le-pow_right}
use Rattle.guest_arithmetic.specs.Plain.{plain_operations}
use Rattle.guest_arithmetic.specs.Values.{number_from}
use Rattle.guest_operands.specs.declared.space.Access.TheVariants.{Read}
use Rattle.guest_operands.specs.declared.state.State.{State}
use Rattle.guest_operands.specs.Access.{Refusal, Refused, Shut, both_reached, bytes_at, next_place, reached as read_as}
use Rattle.guest_operands.specs.Ranges.{byte_in}
use Rattle.guest_operands.specs.RangeLaws.{range_accesses}
use Rattle.loaded_modules.specs.declared.instance.Instance.{Instance}
use Rattle.thread_blocks.specs.Instances.{Loads}
use Rattle.thread_blocks.specs.JobLoads.{job_loads}
use Rattle.thread_blocks.specs.RunTime.{asked_by, pair}
use Rattle.thread_space.specs.Kept.{Kept, memory_of}
use Rattle.job_turns.specs.Running.{asked_from, asked_in, asked_words, asker_in, word_in}
use Rattle.job_turns.proofs.Answering.{NotShut, both-open, byte-open}

-- ** a byte and those behind it

range-open : (k : Kept) (size place : ℕ) → NotShut (bytes_at (range_accesses plain_operations) (memory_of k) place size)
unfolding range_accesses
range-open k zero place = tt
range-open k (suc size) place =
    both-open ◌∷◌ _ _ (byte-open (byte_in Read (memory_of k).ranges place)) (range-open k size (next_place place))

first-refused : (rest : Result (List ℕ) Refusal) → NotShut rest
    → read_as number_from (both_reached (λ (x : ℕ) xs. x ∷ xs) (Err Refused) rest) ≡ Err Refused
first-refused (Ok bytes) g = refl
first-refused (Err Refused) g = refl
first-refused (Err Shut) g = absurd g

rest-refused : (byte : ℕ) (rest : Result (List ℕ) Refusal) → read_as number_from rest ≡ Err Refused
    → read_as number_from (both_reached ◌∷◌ (Ok byte) rest) ≡ Err Refused
rest-refused byte (Ok bytes) e = cc
rest-refused byte (Err why) e = e

both-read : (byte n : ℕ) (rest : Result (List ℕ) Refusal) → read_as number_from rest ≡ Ok n
    → read_as number_from (both_reached ◌∷◌ (Ok byte) rest) ≡ Ok (byte + 256 * n)
both-read byte n (Ok bytes) e = let same : number_from bytes ≡ n = cc in ap (λ m. Ok (byte + 256 * m)) same
both-read byte n (Err why) e = cc

module _ (k : Kept) (address count n : ℕ) (more : count ≡ suc n) where
  pub byte_refused : byte_in Read (memory_of k).ranges address ≡ None → word_in k address count ≡ Err Refused
  unfolding range_accesses
  byte_refused none = rw (more, none) (first-refused _ (range-open k n (next_place address)))

  pub others_refused : (byte : ℕ) → byte_in Read (memory_of k).ranges address ≡ Some byte
      → word_in k (next_place address) n ≡ Err Refused
      → word_in k address count ≡ Err Refused
  unfolding range_accesses
  others_refused byte read rest = rw (more, read) (rest-refused byte _ rest)

  pub all_read : (byte number : ℕ) → byte_in Read (memory_of k).ranges address ≡ Some byte
      → word_in k (next_place address) n ≡ Ok number
      → word_in k address count ≡ Ok (byte + 256 * number)
  unfolding range_accesses
  all_read byte number read rest = rw (more, read) (both-read byte number _ rest)

  -- how large it is
  pub all_small : (byte number : ℕ) → byte < 256 → number < 2 ^ (8 * n) → byte + 256 * number < 2 ^ (8 * count)
  all_small byte number low small =
      let e : 8 * count ≡ 8 * n + 8 = omega (arith, more) in
      let p = pow-add 2 (8 * n) 8 in
      rw (e, p) (omega arith)

-- what fits seven bytes, with one before it
pub small_behind : (n number : ℕ) → n ≤ 7 → number < 2 ^ (8 * n) → 256 * number + 255 < 2 ^ 64
small_behind n number few small =
    let most = pow-le-pow_right {n = 2} (omega arith) {i = 8 * n} {j = 56} (omega arith) in
    omega (arith, small, most)

-- ** what is asked for

first-word : (second : Result ℕ Refusal) (l : Loads ℕ) (thread : ℕ) (x : Instance) (is_descriptor : Bool)
    → asked_by l thread x is_descriptor (both_reached pair (Err Refused) second) ≡ None
first-word (Ok word) l thread x is_descriptor = refl
first-word (Err why) l thread x is_descriptor = refl

pub no_first : (k : Kept) (x : Instance) (is_descriptor : Bool) (address : ℕ) → word_in k address 8 ≡ Err Refused
    → asked_words k x is_descriptor address ≡ None
no_first k x is_descriptor address e =
    ap (λ first. asked_by (job_loads k.vector.images) k.vector.thread x is_descriptor
    (both_reached pair first (word_in k (address + 8) 8))) e
    ∙ first-word (word_in k (address + 8) 8) (job_loads k.vector.images) k.vector.thread x is_descriptor

module _ (k : Kept) (state : State ℕ Bool) (place address : ℕ) (stands : place ≡ state.place)
    (holds : address ≡ (if place == 0x1800 then state.registers.rax else state.registers.rdi)) where
  address-is : (if state.place == 0x1800 then state.registers.rax else state.registers.rdi) ≡ address
  address-is = ap (λ p. if p == 0x1800 then state.registers.rax else state.registers.rdi) (sym stands) ∙ sym holds

  asked-from : (found : Option Instance) → asker_in k address ≡ found
      → asked_in k state ≡ asked_from k (place == 0x1800) address found
  unfolding asked_in
  asked-from found e =
      ap (λ a. asked_from k (state.place == 0x1800) a (asker_in k a)) address-is
      ∙ ap (asked_from k (state.place == 0x1800) address) e
      ∙ ap (λ p. asked_from k (p == 0x1800) address found) (sym stands)

  pub asked_none : asker_in k address ≡ None → asked_in k state ≡ None
  asked_none e = asked-from None e

  pub asked_some : (x : Instance) → asker_in k address ≡ Some x
      → asked_in k state ≡ asked_words k x (place == 0x1800) address
  asked_some x e = asked-from (Some x) e

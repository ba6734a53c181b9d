-- The word at the thread pointer: no block and no data lie there.
use Rattle.std.proofs.Common.{if◌then◌else◌, ◌≡◌, ◌∙◌, ◌+◌, ◌-◌, ◌%◌, ◌^◌, ◌<◌, ◌≤◌, ◌++◌, ℕ, zero, suc, Bool, true}
use Rattle.std.proofs.Common.{false, List, [], ◌∷◌, All, IfSome, length, Option, Some, None, Ok, refl, sym, ap, arith}
use Rattle.std.specs.Prelude.{slice_get, ok_or}
use Rattle.std.proofs.lemmas.Bool.{le-leb, lt-ltb}
use Rattle.address_map.specs.Map.{pointer_of, stack_start}
use Rattle.guest_arithmetic.specs.Plain.{plain_operations}
use Rattle.guest_arithmetic.specs.Values.{digit}
use Rattle.guest_operands.specs.declared.space.Access.TheVariants.{Read}
use Rattle.guest_machine.specs.Access.{Refused, load_of}
use Rattle.guest_machine.specs.Ranges.{Range, byte_in, holds}
use Rattle.loaded_modules.specs.declared.instance.Instance.{Instance}
use Rattle.module_table.specs.declared.events.Event.{Event}
use Rattle.thread_blocks.specs.Held.{Kind, Block, Data, Owner, owned}
use Rattle.thread_blocks.specs.Instances.{Loads, block_start, fixed_at}
use Rattle.thread_blocks.specs.MachineTurns.{pointer_word}
use Rattle.thread_blocks.specs.RunTime.{thread_accesses}
use Rattle.thread_blocks.specs.Spaces.{Space, space_accesses, stack_range}
use Rattle.whole_meaning.specs.Meanings.{Meaning}
use Rattle.tied_meaning.specs.Numbers.{Setting}
use Rattle.tied_meaning.specs.Ties.{AreTied}
use Rattle.tied_meaning.specs.Threads.{IsPlaced, IsRangeOf}
use Rattle.tied_memory.specs.Laws.{PointersAreLoaded}
use Rattle.tied_memory.specs.Places.{AreInPlace}
use Rattle.tied_memory.proofs.Bytes.{bytes_there, digit_there, digits, digits_spell_word}
use Rattle.tied_memory.proofs.Found.{data_place}
use Rattle.tied_memory.proofs.Ranges.{behind_range, below_range, passed}

module _ {g : Setting} {m : Meaning} {q : Loads ℕ} {history : List Event} {thread : ℕ} (tied : AreTied g m q history)
    (low : 1 ≤ thread) (high : thread ≤ 64) {owners : List Owner} {space : Space Event ℕ}
    (sound : AreInPlace g q history thread owners space) where
  -- a block ends there or below
  block_ends : (image number id : ℕ) (offset : Option ℕ) (n : ℕ) → number < 2 ^ 12 → n ≤ 2 ^ 24
      → IfSome offset (λ (o : ℕ). o < 2 ^ 28) → IfSome offset (λ (o : ℕ). n ≤ o)
      → block_start thread (record { image = image; number = number; id = id; offset = offset }) + n ≤ pointer_of thread
  block_ends image number id None n few short h k = omega (arith, few, short)
  block_ends image number id (Some offset) n few short h k = omega (arith, h, k, low)

  module _ (k : ℕ) (below : k < 8) where
    kind_passed : (kind : Kind) (range : Range ℕ) (n : ℕ) (y : Instance) → g.known n ≡ Some y
        → IsRangeOf q thread y kind range → holds range (pointer_of thread + k) ≡ false
    kind_passed Block range n y ky h =
        let it = tied.known n y ky in
        behind_range range (pointer_of thread + k) (omega (
          arith,
          ap (λ (r : Range ℕ). r.start) h.0,
          h.1,
          block_ends y.image y.number y.id y.offset (length (q.block y)) it.0.number.1 it.0.fits.0 it.0.offset
              it.0.fits.1,
        ))
    kind_passed Data range n y ky h = of_test (holds range (pointer_of thread + k)) refl
      where
        of_test : (b : Bool) → holds range (pointer_of thread + k) ≡ b → holds range (pointer_of thread + k) ≡ false
        of_test false e = e
        of_test true e =
            let it = tied.known n y ky in
            let here = data_place it.0 range h.0 h.1.0 h.1.1.0 h.1.1.1 (pointer_of thread + k) e in
            absurd (omega (arith, here.0.1.1, low))

    written_passed : (os : List Owner) (own more : List (Range ℕ)) → length os ≡ length own
        → All (IsPlaced g q thread) (owned os own)
        → byte_in Read (own ++ more) (pointer_of thread + k) ≡ byte_in Read more (pointer_of thread + k)
    written_passed [] [] more e all = refl
    written_passed [] (r ∷ rs) more e all = absurd (omega (arith, e))
    written_passed (o ∷ os) [] more e all = absurd (omega (arith, e))
    written_passed (o ∷ os) (r ∷ rs) more e all =
        let first = all zero (record { owner = o; range = r }) (omega arith) in
        passed Read r (rs ++ more) (pointer_of thread + k) (kind_passed o.kind r o.instance first.0 first.1.0 first.1.1)
        ∙ written_passed os rs more (omega (arith, e)) (λ j d low. all (suc j) d (omega (arith, low)))

    pointer_held : holds (pointer_word plain_operations thread) (pointer_of thread + k) ≡ true
    pointer_held =
        rw (
          le-leb (pointer_of thread) (pointer_of thread + k) (omega arith),
          lt-ltb (pointer_of thread + k - pointer_of thread) 8 (omega (arith, below)),
        ) refl

    grant_held : (held : Bool) (o rest : Option ℕ) → held ≡ true → (if held then o else rest) ≡ o
    grant_held held o rest e = rw e refl

    same_pointer : pointer_of thread % 2 ^ 64 ≡ pointer_of thread
    same_pointer = omega (arith, high)

    pointer_in : byte_in Read (pointer_word plain_operations thread ∷ fixed_at q space.seen) (pointer_of thread + k)
        ≡ Some (digit (pointer_of thread) k)
    unfolding plain_operations
    pointer_in =
        grant_held (holds (pointer_word plain_operations thread) (pointer_of thread + k)) _ _ pointer_held
        ∙ (ap (slice_get (digits (pointer_of thread % 2 ^ 64))) (omega arith)
        ∙ (digit_there (pointer_of thread % 2 ^ 64) k below ∙ ap (λ (n : ℕ). Some (digit n k)) same_pointer))

    pointer_byte : (thread_accesses q thread).byte space (pointer_of thread + k) ≡ Ok (digit (pointer_of thread) k)
    unfolding thread_accesses space_accesses
    pointer_byte = ap (λ (o : Option ℕ). ok_or o Refused) (
        passed Read (stack_range (stack_start thread) space.stack)
        (space.own ++ (pointer_word plain_operations thread ∷ fixed_at q space.seen)) (pointer_of thread + k)
        (below_range (stack_range (stack_start thread) space.stack) (pointer_of thread + k) (omega (arith, below)))
        ∙ written_passed owners space.own (pointer_word plain_operations thread ∷ fixed_at q space.seen) sound.paired
        sound.placed
        ∙ pointer_in)

  pub pointer_read : load_of plain_operations (thread_accesses q thread) space (pointer_of thread) 8
      ≡ Ok (pointer_of thread)
  unfolding load_of plain_operations
  pointer_read =
      let small : pointer_of thread < 2 ^ 63 = omega (arith, high) in
      rw (bytes_there (thread_accesses q thread) space (digits (pointer_of thread)) (pointer_of thread)
      (omega (arith, small))
      (λ k below. pointer_byte k below
      ∙ ap (λ (o : Option ℕ). ok_or o Refused) (sym (digit_there (pointer_of thread) k below))))
      (ap (λ (n : ℕ). Ok n) (digits_spell_word (pointer_of thread) (omega (arith, small))))

pub pointers_loaded : PointersAreLoaded
pointers_loaded g m q history thread tied low owners space sound high = pointer_read tied low high sound

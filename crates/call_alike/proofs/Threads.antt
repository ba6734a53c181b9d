-- Two threads in a call: their code is alike; and the first places are nobody's.
use Rattle.std.proofs.Common.{if◌then◌else◌, ◌≡◌, ◌∙◌, ◌^◌, ◌<◌, ◌≤◌, ◌++◌, ◌||◌, ◌==◌, ℕ, zero, suc, Bool, true, false}
use Rattle.std.proofs.Common.{List, [], ◌∷◌, All, length, Option, Some, None, Ok, refl, sym, ap, subst, arith}
use Rattle.std.specs.Prelude.{option_and_then, IfSome}
use Rattle.std.specs.List.{find, flat_map, list_any}
use Rattle.std.proofs.lemmas.Bool.{eqb-true}
use Rattle.guest_arithmetic.specs.Plain.{plain_operations}
use Rattle.guest_operands.specs.declared.space.Access.{Access}
use Rattle.guest_operands.specs.declared.space.Access.TheVariants.{Run}
use Rattle.guest_machine.specs.Access.{load_of}
use Rattle.guest_machine.specs.Follow.{All2}
use Rattle.guest_machine.specs.Ranges.{Range, byte_in, holds}
use Rattle.guest_machine.specs.Run.{is_look}
use Rattle.job_meaning.specs.declared.values.Byte.{Byte}
use Rattle.job_meaning.specs.Marked.{code_byte, marked_operations}
use Rattle.loaded_modules.specs.declared.instance.Instance.{Instance}
use Rattle.module_table.specs.declared.events.Event.{Event}
use Rattle.thread_blocks.specs.Held.{Kind, Block, Data, Owner, owned}
use Rattle.thread_blocks.specs.Instances.{Loads, fixed_at, instances, numbered_instance}
use Rattle.thread_blocks.specs.MachineTurns.{pointer_word}
use Rattle.thread_blocks.specs.RunTime.{Runs, thread_accesses}
use Rattle.thread_blocks.specs.Spaces.{space_accesses}
use Rattle.thread_blocks.specs.SpaceLaws.{NoneRunnable, SameRange}
use Rattle.whole_meaning.specs.Meanings.{Meaning}
use Rattle.whole_meaning.specs.Threads.{Meant, meant_accesses, meant_mark, meant_shut, ops}
use Rattle.tied_meaning.specs.Codes.{SameCode}
use Rattle.tied_meaning.specs.Numbers.{Setting, SameByte, alike}
use Rattle.tied_meaning.specs.Sites.{HasWord}
use Rattle.tied_meaning.specs.Threads.{InCall, IsPlaced, IsRangeOf}
use Rattle.tied_meaning.specs.Ties.{AreTied, IsPlaceOf, IsTied}
use Rattle.held_alike.proofs.Looks.{live_same}
use Rattle.tied_memory.proofs.Standing.{word_read}
use Rattle.site_steps.proofs.Steps.{in_place}
use Rattle.call_alike.specs.Laws.{CodeIsAlike}
use Rattle.call_alike.proofs.Codes.{code_alike}
use Rattle.call_alike.proofs.Marks.{meant_code, real_code}

-- ** ranges that hold no code

none_runs : {B : Type 0} (ranges rest : List (Range B)) (place : ℕ) → NoneRunnable ranges
    → byte_in Run (ranges ++ rest) place ≡ byte_in Run rest place
none_runs [] rest place none = refl
none_runs (range ∷ ranges) rest place none = rw none.0 (none_runs ranges rest place none.1)

none_of_both : (R : Byte → ℕ → Type 0) (own : List (Range Byte)) (own' : List (Range ℕ))
    → All2 (SameRange R) own own' → NoneRunnable own' → NoneRunnable own
none_of_both R [] [] h none = tt
none_of_both R [] (range' ∷ own') h none = absurd h
none_of_both R (range ∷ own) [] h none = absurd h
none_of_both R (range ∷ own) (range' ∷ own') h none =
    (sym h.0.runnable ∙ none.0, none_of_both R own own' h.1 none.1)

same_code : (o : Option ℕ) → option_and_then (λ (byte : ℕ). Some byte) o ≡ o
same_code None = refl
same_code (Some byte) = refl

-- a place that is not shut is no place where the run time is called, and in no room
pub not_shut : (look room : Bool) → (if look then true else room) ≡ false → room ≡ false
not_shut true room e = absurd cc
not_shut false room e = e

-- ** what a thread writes cannot be run

shared_runs : {g : Setting} {m : Meaning} {q : Loads ℕ} (x : Instance) → IsTied g m q x → (whole : Range ℕ)
    → q.shared x ≡ Some whole → whole.runnable ≡ false
shared_runs {g} {m} {q} x it whole shared =
    (subst (λ (o : Option (Range ℕ)). IfSome o (λ (range : Range ℕ). (range.runnable ≡ false)
    × ((place : ℕ) → holds range place ≡ true
    → IsPlaceOf x place × ((access : Access) → byte_in access (q.fixed x) place ≡ None)))) shared it.data_there).0

kind_runs : {g : Setting} {m : Meaning} {q : Loads ℕ} (thread : ℕ) (kind : Kind) (x : Instance) (range : Range ℕ)
    → IsTied g m q x → IsRangeOf q thread x kind range → range.runnable ≡ false
kind_runs thread Block x range it h = ap (λ (r : Range ℕ). r.runnable) h.0
kind_runs thread Data x range it h = ap (λ (r : Range ℕ). r.runnable) h.1.1.0 ∙ shared_runs x it h.0 h.1.0

own_runs : {g : Setting} {m : Meaning} {q : Loads ℕ} {history : List Event} → AreTied g m q history → (thread : ℕ)
    (owners : List Owner) (own : List (Range ℕ)) → All (IsPlaced g q thread) (owned owners own)
    → length owners ≡ length own → NoneRunnable own
own_runs tied thread [] [] placed paired = tt
own_runs tied thread [] (range ∷ own) placed paired = absurd (omega (arith, paired))
own_runs tied thread (o ∷ owners) [] placed paired = absurd (omega (arith, paired))
own_runs tied thread (o ∷ owners) (range ∷ own) placed paired =
    let first = placed zero (record { owner = o; range = range }) (omega arith) in (
      kind_runs thread o.kind first.0 range (tied.known o.instance first.0 first.1.0).0 first.1.1,
      own_runs tied thread owners own (λ k d below. placed (suc k) d (omega (arith, below))) (omega (arith, paired)),
    )

-- ** the first places are nobody's

no_look : (k : ℕ) → k < 8 → is_look k ≡ false
no_look k low = of_tests (k == 0x1000) refl (k == 0x1800) refl
  where
    of_tests : (a : Bool) → (k == 0x1000) ≡ a → (b : Bool) → (k == 0x1800) ≡ b → is_look k ≡ false
    of_tests true e b f = absurd (omega (arith, low, eqb-true k 0x1000 e))
    of_tests false e true f = absurd (omega (arith, low, eqb-true k 0x1800 f))
    of_tests false e false f = rw (e, f) refl

no_room : {g : Setting} {m : Meaning} {q : Loads ℕ} (xs : List Instance) → All (IsTied g m q) xs → (k : ℕ) → k < 8
    → list_any (λ (x : Instance). m.room x k) xs ≡ false
no_room [] all k low = refl
no_room {g} {m} {q} (x ∷ xs) all k low =
    rw (no_room xs (λ i d below. all (suc i) d (omega (arith, below))) k low) (of_room (m.room x k) refl)
  where
    of_room : (b : Bool) → m.room x k ≡ b → (m.room x k || false) ≡ false
    of_room false e = rw e refl
    of_room true e = absurd (omega (arith, low, ((all zero x (omega arith)).rooms k e).1.0))

-- ** two threads in a call

module _ {g : Setting} {m : Meaning} {q : Loads ℕ} {history : List Event} {thread : ℕ} (tied : AreTied g m q history)
    {h : Meant} {h' : Runs} (call : InCall g m q history thread h h') where
  abbrev Seen : List Event
  Seen = h.after.memory.seen

  abbrev live : List Instance
  live = instances m.loads Seen

  lives : instances q Seen ≡ live
  lives = sym (live_same g m q thread history tied Seen)

  tied_live : All (IsTied g m q) live
  tied_live = subst (All (IsTied g m q)) lives (tied.each Seen call.front)

  pub low_open : (k : ℕ) → k < 8 → meant_shut m thread h.after.memory k ≡ false
  low_open k low = rw (no_look k low) (no_room live tied_live k low)

  -- ** code

  theirs_none : NoneRunnable h'.after.memory.own
  theirs_none = own_runs tied thread h.owners h'.after.memory.own call.memory.placed call.memory.paired

  mine_none : NoneRunnable h.after.memory.own
  mine_none =
      none_of_both (SameByte g) h.after.memory.own h'.after.memory.own call.memory.space.own theirs_none

  mine : (place : ℕ) → (meant_accesses m thread).code h.after.memory place
      ≡ meant_code g m thread q live tied_live place
  unfolding meant_accesses space_accesses fixed_at marked_operations
  mine place = ap (option_and_then code_byte)
      (none_runs h.after.memory.own (pointer_word ops thread ∷ flat_map m.loads.fixed live) place mine_none)

  theirs : (place : ℕ) → (thread_accesses q thread).code h'.after.memory place
      ≡ real_code g m thread q live tied_live place
  unfolding thread_accesses space_accesses fixed_at plain_operations
  theirs place =
      same_code (byte_in Run (h'.after.memory.own
      ++ (pointer_word plain_operations thread ∷ flat_map q.fixed (instances q h'.after.memory.seen))) place)
      ∙ (none_runs h'.after.memory.own
      (pointer_word plain_operations thread ∷ flat_map q.fixed (instances q h'.after.memory.seen)) place theirs_none
      ∙ (ap (λ (seen : List Event). byte_in Run (flat_map q.fixed (instances q seen)) place)
      call.memory.space.seen
      ∙ ap (λ (xs : List Instance). byte_in Run (flat_map q.fixed xs) place) lives))

  words : 1 ≤ thread → (x : Instance) (a w : ℕ) → IsTied g m q x
      → find (λ (y : Instance). y.number == x.number) live ≡ Some x → HasWord q x a w → w < 2 ^ 64
      → load_of plain_operations (thread_accesses q thread) h'.after.memory a 8 ≡ Ok w
  words one x a w it here has small =
      let found : numbered_instance q h'.after.memory.seen x.number ≡ Some x =
      ap (λ (seen : List Event). numbered_instance q seen x.number) call.memory.space.seen
      ∙ (ap (find (λ (y : Instance). y.number == x.number)) lives ∙ here) in
      word_read tied one (in_place call) it found a w has small

  pub call_code : 1 ≤ thread
      → SameCode (alike g) ops plain_operations (meant_mark m thread h.after.memory)
      (meant_shut m thread h.after.memory) (meant_accesses m thread) (thread_accesses q thread) h.after.memory
      h'.after.memory
  call_code one = code_alike g m thread q live tied_live (meant_accesses m thread) (thread_accesses q thread)
      h.after.memory h'.after.memory (meant_shut m thread h.after.memory) mine theirs
      (λ place e. not_shut (is_look place) (list_any (λ (x : Instance). m.room x place) live) e) (words one)

-- ** the law

pub code_there : CodeIsAlike
code_there g m q history thread tied low h h' call = call_code tied call low

-- A step of the meaning where no sequence begins, over a thread's memory, and over that memory with a byte closed.
use Rattle.std.specs.Prelude.{◌≡◌, ◌==◌, ℕ, List, None, Err, if◌then◌else◌}
use Rattle.amd64_subset.specs.Decoding.{decoded}
use Rattle.guest_operands.specs.Access.{Accesses, Refused, fetch_of}
use Rattle.guest_machine.specs.Clean.{IsClean}
use Rattle.guest_machine.specs.Run.{Next, Goes, Ends, Looks}
use Rattle.guest_machine.specs.Touch.{touched}
use Rattle.job_meaning.specs.declared.values.Byte.{Byte}
use Rattle.whole_meaning.specs.Meanings.{Meaning}
use Rattle.whole_meaning.specs.Reading.{own_touches}
use Rattle.whole_meaning.specs.Running.{meaning}
use Rattle.whole_meaning.specs.Threads.{Meant, Memory, held_next, meant_accesses, meant_mark, meant_sequence}
use Rattle.whole_meaning.specs.Threads.{meant_shut, ops, sequence_at}

-- the step is not unclean
abbrev pub HasNoCause : {S : Type 0} → Next S → Type 0
HasNoCause (Goes next) = Unit {0}
HasNoCause (Ends stop) = IsClean stop
HasNoCause (Looks next) = Unit {0}

-- the accesses without those to the byte of data at a place: it can be neither read nor written
abbrev pub without : {M B : Type 0} → ℕ → Accesses M B → Accesses M B
without place acc = record acc {
  byte = λ memory at. if at == place then Err Refused else acc.byte memory at;
  writes = λ memory at. if at == place then Err Refused else acc.writes memory at;
}

module _ (m : Meaning) (thread : ℕ) where
  -- no sequence begins where the thread is
  abbrev pub StartsNoSequence : Meant → Type 0
  StartsNoSequence h = sequence_at m thread h.after.memory.seen h.after.state.place ≡ None

  -- the bytes that an instruction is read from
  abbrev pub fetched : Meant → List ℕ
  fetched h = fetch_of (meant_accesses m thread) h.after.memory h.after.state.place

  -- the bytes of data that the step is said to touch
  abbrev pub data_touched : Meant → List ℕ
  data_touched h = touched (meant_accesses m thread) h.after.memory
      (own_touches ops (meant_mark m thread h.after.memory) h.after.state (decoded (fetched h)))

  -- the meaning's step over a memory with these accesses
  abbrev pub step_over : Accesses Memory Byte → Meant → Next Meant
  step_over acc h = held_next m thread h
      ((meaning ops acc (meant_mark m thread) (meant_shut m thread) (meant_sequence m thread)).step h.after)

-- Steps of the meaning that read plain numbers alone, and the machine's step of the same numbers.
use Rattle.std.specs.Prelude.{◌≡◌, ◌⊎◌, ◌++◌, ◌<◌, ℕ, Bool, true, false, List, [], length, take, Option, Some, None}
use Rattle.std.specs.Prelude.{Result, Ok, Err, if◌then◌else◌, is_err}
use Rattle.std.specs.List.{All, list_any}
use Rattle.amd64_words.specs.declared.register.Register.{Register}
use Rattle.amd64_subset.specs.declared.instr.Decoded.{Decoded}
use Rattle.amd64_subset.specs.Beginning.{begins_of}
use Rattle.amd64_subset.specs.Decoding.{decoded}
use Rattle.guest_arithmetic.specs.declared.flags.Flags.{Flags}
use Rattle.guest_operands.specs.declared.state.State.{State}
use Rattle.guest_operands.specs.declared.stop.Stop.{Stop}
use Rattle.guest_operands.specs.Access.{Accesses, Refusal, reached}
use Rattle.guest_operands.specs.State.{register_of}
use Rattle.guest_operands.specs.Use.{After}
use Rattle.guest_machine.specs.Clean.{IsClean}
use Rattle.guest_machine.specs.Run.{Next, Goes, Ends, Looks}
use Rattle.job_meaning.specs.declared.values.Byte.{Byte}
use Rattle.job_meaning.specs.declared.values.Byte.TheVariants.{Value, Hidden, Part}
use Rattle.job_meaning.specs.declared.values.Flag.{Flag}
use Rattle.job_meaning.specs.declared.values.Flag.TheVariants.{Truth, Unsettled}
use Rattle.job_meaning.specs.declared.values.Word.{Word}
use Rattle.job_meaning.specs.declared.values.Word.TheVariants.{Number, Undefined, Marked}
use Rattle.job_meaning.specs.Reading.{place_at}
use Rattle.whole_meaning.specs.declared.marks.Mark.{Mark}
use Rattle.whole_meaning.specs.declared.marks.Mark.TheVariants.{Usual}
use Rattle.whole_meaning.specs.Meanings.{Meaning}
use Rattle.whole_meaning.specs.Threads.{Meant, Memory, meant_accesses, meant_mark, meant_shut}
use Rattle.step_laws.specs.Reads.{bytes_read, bytes_written, flags_read, left_undefined, registers_read}
use Rattle.step_laws.specs.Steps.{StartsNoSequence, fetched}

-- ** plain numbers

abbrev pub IsNumber : Word → Type 0
IsNumber (Number number) = Unit {0}
IsNumber Undefined = ⊥
IsNumber (Marked token) = ⊥

abbrev pub IsTruth : Flag → Type 0
IsTruth (Truth truth) = Unit {0}
IsTruth Unsettled = ⊥

-- a byte that can be read is a number
abbrev pub IsByte : Result Byte Refusal → Type 0
IsByte (Ok (Value number)) = Unit {0}
IsByte (Ok Hidden) = ⊥
IsByte (Ok (Part token k)) = ⊥
IsByte (Err why) = Unit {0}

-- ** a machine with the same numbers, and any numbers in place of marks

abbrev pub HasNumber : Word → ℕ → Type 0
HasNumber (Number number) number' = number' ≡ number
HasNumber Undefined number' = Unit {0}
HasNumber (Marked token) number' = Unit {0}

abbrev pub HasTruth : Flag → Bool → Type 0
HasTruth (Truth truth) truth' = truth' ≡ truth
HasTruth Unsettled truth' = Unit {0}

pub record HasNumbers (state : State Word Flag) (state' : State ℕ Bool) : Type 0 where
  pub register : (r : Register) → HasNumber (register_of state.registers r) (register_of state'.registers r)
  pub zero : HasTruth state.flags.zero state'.flags.zero
  pub sign : HasTruth state.flags.sign state'.flags.sign
  pub carry : HasTruth state.flags.carry state'.flags.carry
  pub overflow : HasTruth state.flags.overflow state'.flags.overflow
  pub place : state'.place ≡ state.place
  pub thread_pointer : state'.thread_pointer ≡ state.thread_pointer

abbrev pub number_in : Byte → ℕ
number_in (Value number) = number
number_in Hidden = 0
number_in (Part token k) = 0

-- the same memory, whose bytes are read and written as numbers
abbrev pub numbered : {M : Type 0} → Accesses M Byte → Accesses M ℕ
numbered acc = record {
  byte = λ memory place. reached number_in (acc.byte memory place);
  writes = acc.writes;
  put = λ memory place number. acc.put memory place (Value number);
  code = acc.code;
}

-- ** when a step is plain

-- an instruction is read before any sequence and any field: its first bytes spell it, or rule out that any instruction
-- is spelled there; or the code ends before that
pub record IsReadWhole (mark : ℕ → Mark) (place : ℕ) (bytes : List ℕ) : Type 0 where
  pub size : ℕ
  pub usual : (k : ℕ) → k < size → mark (place_at place k) ≡ Usual
  pub decides : (begins_of (take size bytes) ≡ false) ⊎ (length bytes < size)

-- each register, flag and byte that the instruction reads is a number
pub record ReadsNumbers {M : Type 0} (acc : Accesses M Byte) (memory : M) (state : State Word Flag)
    (state' : State ℕ Bool) (d : Decoded) : Type 0 where
  pub registers : All (λ r. IsNumber (register_of state.registers r)) (registers_read d.instr.operation)
  pub flags : All IsTruth (flags_read d.instr.operation state.flags)
  pub bytes : All (λ place. IsByte (acc.byte memory place)) (bytes_read d state' d.instr.operation)

abbrev pub DoesRead : {M : Type 0} → Accesses M Byte → M → State Word Flag → State ℕ Bool → Option Decoded → Type 0
DoesRead acc memory state state' None = Unit {0}
DoesRead acc memory state state' (Some d) = ReadsNumbers acc memory state state' d

-- some of these bytes can't be read
abbrev pub any_refused : {M : Type 0} → Accesses M Byte → M → List ℕ → Bool
any_refused acc memory places = list_any (λ place. is_err (acc.byte memory place)) places

-- the bytes that the instruction touches: what it writes it does not reach if what it reads is refused
abbrev pub bytes_touched : {M : Type 0} → Accesses M Byte → M → State ℕ Bool → Option Decoded → List ℕ
bytes_touched acc memory state None = []
bytes_touched acc memory state (Some d) = let read = bytes_read d state d.instr.operation in
    read ++ (if any_refused acc memory read then [] else bytes_written d state d.instr.operation)

pub record IsPlain (m : Meaning) (thread : ℕ) (h : Meant) (state : State ℕ Bool) : Type 0 where
  pub starts : StartsNoSequence m thread h
  pub whole : IsReadWhole (meant_mark m thread h.after.memory) h.after.state.place (fetched m thread h)
  pub reads : DoesRead (meant_accesses m thread) h.after.memory h.after.state state (decoded (fetched m thread h))
  -- nothing is the linker's own: not the address where the instruction begins, and no byte that it touches
  pub outside : meant_shut m thread h.after.memory h.after.state.place ≡ false
  pub apart : list_any (meant_shut m thread h.after.memory)
      (bytes_touched (meant_accesses m thread) h.after.memory state (decoded (fetched m thread h))) ≡ false

-- ** what a step leaves

-- a register: the machine's number, or what was in it on both sides
abbrev pub WordAfter : Word → ℕ → Word → ℕ → Type 0
WordAfter before before' after after' = (after ≡ Number after') ⊎ ((after ≡ before) × (after' ≡ before'))

-- a flag: the same, unless the instruction leaves it undefined; then the machine keeps it
abbrev pub FlagAfter : Bool → Flag → Bool → Flag → Bool → Type 0
FlagAfter true before before' after after' = (after ≡ Unsettled) × (after' ≡ before')
FlagAfter false before before' after after' = (after ≡ Truth after') ⊎ ((after ≡ before) × (after' ≡ before'))

pub record IsAfter (undefined : Flags Bool) (before : State Word Flag) (before' : State ℕ Bool)
    (after : State Word Flag) (after' : State ℕ Bool) : Type 0 where
  pub register : (r : Register) → WordAfter (register_of before.registers r) (register_of before'.registers r)
      (register_of after.registers r) (register_of after'.registers r)
  pub zero : FlagAfter undefined.zero before.flags.zero before'.flags.zero after.flags.zero after'.flags.zero
  pub sign : FlagAfter undefined.sign before.flags.sign before'.flags.sign after.flags.sign after'.flags.sign
  pub carry : FlagAfter undefined.carry before.flags.carry before'.flags.carry after.flags.carry after'.flags.carry
  pub overflow : FlagAfter undefined.overflow before.flags.overflow before'.flags.overflow after.flags.overflow
      after'.flags.overflow
  pub place : after.place ≡ after'.place
  pub thread_pointer : after.thread_pointer ≡ after'.thread_pointer

abbrev pub undefined_by : Option Decoded → Flags Bool
undefined_by None = record { zero = false; sign = false; carry = false; overflow = false }
undefined_by (Some d) = left_undefined d.instr.operation

-- the meaning goes on where the machine does, with the same memory; or both stop alike, and there is no cause
abbrev pub IsTheMachines : Option Decoded → Meant → State ℕ Bool → Next Meant → Result (After ℕ Bool Memory) Stop
    → Type 0
IsTheMachines d h state (Goes next) (Ok after) =
    IsAfter (undefined_by d) h.after.state state next.after.state after.state
    × (next.after.memory ≡ after.memory) × (next.owners ≡ h.owners) × (next.asked ≡ h.asked)
IsTheMachines d h state (Goes next) (Err stop) = ⊥
IsTheMachines d h state (Ends stop) (Ok after) = ⊥
IsTheMachines d h state (Ends stop) (Err stop') = IsClean stop × (stop' ≡ stop)
IsTheMachines d h state (Looks next) r = ⊥

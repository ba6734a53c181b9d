-- What a field allows: the meaning's question and the table's are one.
use Rattle.std.proofs.lemmas.Bool.{eqb-true}
use Rattle.std.proofs.Common.{◌≡◌, ℕ, suc, ◌+◌, ◌-◌, ◌==◌, Bool, true, false, ◌&&◌, List, Option, Some, None, Result}
use Rattle.std.proofs.Common.{Ok, Err, refl, sym, ap, ◌∙◌, arith}
use Rattle.std.specs.Prelude.{if◌then◌else◌, ℤ, pos, negsuc, is_some, nat_le, not, is_ok}
use Rattle.address_map.specs.Map.{owner_at}
use Rattle.amd64_subset.specs.declared.instr.Arithmetic.{Arithmetic}
use Rattle.amd64_subset.specs.declared.instr.Arithmetic.TheVariants.{Add, Or, And, Sub, Xor, Compare}
use Rattle.amd64_subset.specs.declared.instr.Decoded.{Decoded}
use Rattle.amd64_subset.specs.declared.instr.Operation.{Operation}
use Rattle.amd64_subset.specs.declared.instr.Operation.TheVariants.{Move, StoreByte, ExtendByte, ExtendLong}
use Rattle.amd64_subset.specs.declared.instr.Operation.TheVariants.{LoadAddress, Compute, Test, Multiply, Shift, Push}
use Rattle.amd64_subset.specs.declared.instr.Operation.TheVariants.{Pop, Leave, Call, Jump}
use Rattle.amd64_subset.specs.declared.instr.Operation.TheVariants.{JumpIf, Return, Nop, Undefined}
use Rattle.amd64_subset.specs.declared.instr.Target.TheVariants.{Relative, Indirect}
use Rattle.amd64_subset.specs.declared.instr.Width.TheVariants.{Long, Quad}
use Rattle.amd64_subset.specs.declared.operand.Base.{Base}
use Rattle.amd64_subset.specs.declared.operand.Base.TheVariants.{Absolute, NextInstruction, Register as OfRegister}
use Rattle.amd64_subset.specs.declared.operand.Memory.{Memory}
use Rattle.amd64_subset.specs.declared.operand.Operand.{Operand}
use Rattle.amd64_subset.specs.declared.operand.Operand.TheVariants.{InMemory, Register as InRegister}
use Rattle.amd64_subset.specs.declared.operand.Operands.TheVariants.{IntoRegister, IntoMemory, Immediate}
use Rattle.guest_arithmetic.specs.declared.cause.Cause.{Cause}
use Rattle.guest_arithmetic.specs.declared.cause.Cause.TheVariants as cause
use Rattle.guest_operands.specs.declared.state.State.{State}
use Rattle.guest_operands.specs.Operand.{address_of}
use Rattle.guest_operands.specs.State.{register_of}
use Rattle.guest_operands.specs.Use.{plus}
use Rattle.job_meaning.specs.declared.values.Flag.{Flag}
use Rattle.job_meaning.specs.declared.values.Word.{Word}
use Rattle.job_meaning.specs.Marked.{marked_operations, moved_in}
use Rattle.job_meaning.specs.Reading.{is_at}
use Rattle.whole_meaning.specs.declared.marks.Mark.{Mark}
use Rattle.whole_meaning.specs.declared.marks.Mark.TheVariants.{Usual, Offset, Address, Inside}
use Rattle.whole_meaning.specs.Fields as fields
use Rattle.whole_meaning.specs.Fields.{marked_frame, memory_in, operand_in, read_in, reads_next, takes_address}
use Rattle.whole_meaning.specs.Fields.{takes_offset}
use Rattle.whole_meaning.specs.Reading.{hindrance_of}
use Rattle.whole_meaning.specs.Threads.{ops}
use Rattle.cause_laws.specs.Instructions.{memory_of, operand_of, read_operand}
use Rattle.cause_laws.specs.Operands as operands
use Rattle.cause_laws.specs.Operands.{allows, allows_address, allows_offset, begins_at, block_of, is_next_operand}
use Rattle.cause_laws.specs.Operands.{operand_address}
use Rattle.cause_laws.specs.Rows.{is_covered}
use Rattle.cause_laws.proofs.Addresses.{AddsField, SaysBy, address-says, block-adds}

-- ** the operand

operand-is : (o : Operand) → operand_in o ≡ memory_of o
operand-is (InRegister register) = refl
operand-is (InMemory memory) = refl

pub memory-is : (op : Operation) → memory_in op ≡ operand_of op
unfolding memory_in operand_of
memory-is (Move width (IntoRegister to from)) = operand-is from
memory-is (Move width (IntoMemory to from)) = refl
memory-is (Move width (Immediate to)) = operand-is to
memory-is (StoreByte to from) = refl
memory-is (ExtendByte width to from) = operand-is from
memory-is (ExtendLong to from) = operand-is from
memory-is (LoadAddress width to from) = refl
memory-is (Compute arithmetic width (IntoRegister to from)) = operand-is from
memory-is (Compute arithmetic width (IntoMemory to from)) = refl
memory-is (Compute arithmetic width (Immediate to)) = operand-is to
memory-is (Test width left right) = operand-is left
memory-is (Multiply width to from) = operand-is from
memory-is (Shift shift width to count) = operand-is to
memory-is (Push from) = refl
memory-is (Pop to) = refl
memory-is Leave = refl
memory-is (Call (Relative distance)) = refl
memory-is (Call (Indirect operand)) = operand-is operand
memory-is (Jump (Relative distance)) = refl
memory-is (Jump (Indirect operand)) = operand-is operand
memory-is (JumpIf condition distance) = refl
memory-is Return = refl
memory-is (Nop None) = refl
memory-is (Nop (Some operand)) = operand-is operand
memory-is Undefined = refl

pub read-is : (op : Operation) → read_in op ≡ read_operand op
unfolding read_in read_operand
read-is (Move Quad (IntoRegister to from)) = operand-is from
read-is (Move Quad (IntoMemory to from)) = refl
read-is (Move Quad (Immediate to)) = refl
read-is (Move Long operands) = refl
read-is (StoreByte to from) = refl
read-is (ExtendByte width to from) = refl
read-is (ExtendLong to from) = refl
read-is (LoadAddress width to from) = refl
read-is (Compute arithmetic Long operands) = by_kind arithmetic
  where
    by_kind : (arithmetic : Arithmetic)
        → read_in (Compute arithmetic Long operands) ≡ read_operand (Compute arithmetic Long operands)
    by_kind Add = refl
    by_kind Or = refl
    by_kind And = refl
    by_kind Sub = refl
    by_kind Xor = refl
    by_kind Compare = refl
read-is (Compute Add Quad (IntoRegister to from)) = operand-is from
read-is (Compute Or Quad (IntoRegister to from)) = operand-is from
read-is (Compute And Quad (IntoRegister to from)) = operand-is from
read-is (Compute Sub Quad (IntoRegister to from)) = operand-is from
read-is (Compute Xor Quad (IntoRegister to from)) = operand-is from
read-is (Compute Compare Quad (IntoRegister to from)) = operand-is from
read-is (Compute Add Quad (IntoMemory to from)) = refl
read-is (Compute Or Quad (IntoMemory to from)) = refl
read-is (Compute And Quad (IntoMemory to from)) = refl
read-is (Compute Sub Quad (IntoMemory to from)) = refl
read-is (Compute Xor Quad (IntoMemory to from)) = refl
read-is (Compute Compare Quad (IntoMemory to from)) = refl
read-is (Compute Add Quad (Immediate to)) = refl
read-is (Compute Or Quad (Immediate to)) = refl
read-is (Compute And Quad (Immediate to)) = refl
read-is (Compute Sub Quad (Immediate to)) = refl
read-is (Compute Xor Quad (Immediate to)) = refl
read-is (Compute Compare Quad (Immediate to)) = operand-is to
read-is (Test Quad left right) = operand-is left
read-is (Test Long left right) = refl
read-is (Multiply Quad to from) = operand-is from
read-is (Multiply Long to from) = refl
read-is (Shift shift width to count) = refl
read-is (Push from) = refl
read-is (Pop to) = refl
read-is Leave = refl
read-is (Call (Relative distance)) = refl
read-is (Call (Indirect operand)) = operand-is operand
read-is (Jump (Relative distance)) = refl
read-is (Jump (Indirect operand)) = operand-is operand
read-is (JumpIf condition distance) = refl
read-is Return = refl
read-is (Nop operand) = refl
read-is Undefined = refl

-- ** offset fields

at-is : (o : Option ℕ) (k : ℕ) → is_at o k ≡ begins_at o k
at-is None k = refl
at-is (Some at) k = refl

used-says : (o : Option ℕ) (r : Result ℕ Cause) (own : Option ℕ) (ws : List Word) → SaysBy o r own ws
    → is_ok r ≡ is_some own
used-says None (Ok a) own ws h = rw (h.0) refl
used-says None (Err why) own ws h = rw (h.0) refl
used-says (Some number) (Ok a) own ws h = rw h refl
used-says (Some number) (Err why) own ws h = rw (h.0) refl

adds-used : (more : ℕ) (r : Result ℕ Cause) (own : Option ℕ) → AddsField more r own → is_ok r ≡ is_some own
adds-used more (Ok a) own h = let is : own ≡ Some h.0 = h.1.0 in rw is refl
adds-used more (Err why) own h = rw h refl

module _ (mark : ℕ → Mark) (state : State Word Flag) (it : Decoded) where
  placed-is : (o : Option Memory) → fields.has_address ops mark state it o ≡ operands.is_placed mark state it o
  placed-is None = refl
  placed-is (Some memory) =
      used-says (operands.offset_field mark state it) (address_of ops (marked_frame mark state.place it) state memory)
      (operand_address mark state it memory) (operands.words_by mark state it None memory)
      (address-says mark state it memory)

  base-is : (k : ℕ) (op : Operation) → it.imm ≡ Some k
      → fields.adds_to_base ops mark state it k op ≡ operands.adds_to_base mark state it op
  unfolding marked_operations
  base-is k (Compute Add Quad (Immediate (InRegister to))) e =
      let number = (marked_frame mark state.place it).immediate in
      let word = register_of state.registers to in
      adds-used number (moved_in owner_at word number (plus state.place k))
      (block_of (owner_at (plus state.place k)) word)
      (block-adds word number (plus state.place k))
      ∙ ap (λ (o : Option ℕ). is_some (block_of (operands.owner mark state it o) word)) (sym e)
  base-is k op e = refl

  -- where the number begins elsewhere, neither is asked
  imm-is : (o : Option ℕ) → it.imm ≡ o → (k : ℕ)
      → (is_at o k && fields.adds_to_base ops mark state it k it.instr.operation)
      ≡ (begins_at o k && operands.adds_to_base mark state it it.instr.operation)
  imm-is None e k = refl
  imm-is (Some at) e k =
      let mine = fields.adds_to_base ops mark state it k it.instr.operation in
      let own = operands.adds_to_base mark state it it.instr.operation in
      (elim (at == k) as (λ b. (at == k) ≡ b → (b && mine) ≡ (b && own)) [
        | true ↦ λ f. base-is k it.instr.operation (e ∙ ap (λ (j : ℕ). Some j) (eqb-true at k f))
        | false ↦ λ f. refl
      ]) refl

  offset-is : (k : ℕ) → takes_offset ops mark state k it ≡ allows_offset mark state it k
  offset-is k = rw (
    at-is it.disp k,
    memory-is it.instr.operation,
    placed-is (operand_of it.instr.operation),
    imm-is it.imm refl k,
  ) refl

-- ** address fields

minus-is : (addend : ℤ) (size : ℕ) → fields.is_minus addend size ≡ operands.is_minus addend size
minus-is (pos n) size = refl
minus-is (negsuc n) size = let one : suc n ≡ n + 1 = omega arith in ap (λ (k : ℕ). k == size) one

pub base-next : (b : Base) → fields.is_from_next b ≡ operands.is_next b
base-next Absolute = refl
base-next NextInstruction = refl
base-next (OfRegister register) = refl

next-is : (o : Option Memory) → reads_next o ≡ is_next_operand o
next-is None = refl
next-is (Some memory) = ap (λ (b : Bool). b && not memory.from_thread_pointer) (base-next memory.base)

module _ (mark : ℕ → Mark) (state : State Word Flag) (it : Decoded) where
  address-is : (addend : ℤ) (k : ℕ) → takes_address ops mark state addend k it ≡ allows_address mark state it addend k
  address-is addend k =
      rw (
        at-is it.disp k,
        read-is it.instr.operation,
        next-is (read_operand it.instr.operation),
        minus-is addend
            (it.len - k),
      ) refl

-- ** a byte that may not be covered

-- its cause, if it may not
abbrev pub blocked : Bool → Mark → Option Cause
blocked true μ = None
blocked false Usual = None
blocked false (Offset number byte) = Some cause.Field
blocked false (Address number addend byte) = Some cause.Field
blocked false Inside = Some cause.Inside

blocked-if : (b c : Bool) (μ : Mark) (why : Cause) → b ≡ c → blocked false μ ≡ Some why
    → (if b then None else Some why) ≡ blocked c μ
blocked-if b true μ why e f = rw e refl
blocked-if b false μ why e f = rw (e, f) refl

module _ (mark : ℕ → Mark) (state : State Word Flag) where
  pub blocked-is : (it : Option Decoded) (k : ℕ) (μ : Mark)
      → hindrance_of ops mark state it k μ ≡ blocked (is_covered mark state it k μ) μ
  blocked-is None k Usual = refl
  blocked-is None k (Offset number byte) = refl
  blocked-is None k (Address number addend byte) = refl
  blocked-is None k Inside = refl
  blocked-is (Some it) k Usual = refl
  blocked-is (Some it) k (Offset number byte) =
      blocked-if _ _ (Offset number byte) cause.Field
      (ap (λ (b : Bool). nat_le byte k && b) (offset-is mark state it (k - byte))) refl
  blocked-is (Some it) k (Address number addend byte) =
      blocked-if _ _ (Address number addend byte) cause.Field
      (ap (λ (b : Bool). nat_le byte k && b) (address-is mark state it addend (k - byte))) refl
  blocked-is (Some it) k Inside = refl

-- A step that nothing hinders is unclean for the first cause of the words and flags of the table.
use Rattle.std.proofs.Common.{◌≡◌, ℕ, Bool, true, false, List, [], ◌++◌, Option, Some, None, Result, Ok, Err, refl, sym}
use Rattle.std.proofs.Common.{ap, subst, ◌∙◌}
use Rattle.std.specs.Prelude.{if◌then◌else◌}
use Rattle.amd64_subset.specs.declared.instr.Arithmetic.TheVariants.{Add, Or, And, Sub, Xor, Compare}
use Rattle.amd64_subset.specs.declared.instr.Decoded.{Decoded}
use Rattle.amd64_subset.specs.declared.instr.Operation.{Operation}
use Rattle.amd64_subset.specs.declared.instr.Operation.TheVariants.{Move, StoreByte, ExtendByte, ExtendLong}
use Rattle.amd64_subset.specs.declared.instr.Operation.TheVariants.{LoadAddress, Compute, Test, Multiply}
use Rattle.amd64_subset.specs.declared.instr.Operation.TheVariants.{Shift as ShiftBy, Push, Pop, Leave, Call, Jump}
use Rattle.amd64_subset.specs.declared.instr.Operation.TheVariants.{JumpIf, Return, Nop, Undefined}
use Rattle.amd64_subset.specs.declared.instr.Target.TheVariants.{Relative, Indirect}
use Rattle.amd64_subset.specs.declared.instr.Width.{Width}
use Rattle.amd64_subset.specs.declared.instr.Width.TheVariants.{Long as LongWidth, Quad as QuadWidth}
use Rattle.amd64_subset.specs.declared.operand.Memory.{Memory}
use Rattle.amd64_subset.specs.declared.operand.Operand.{Operand}
use Rattle.amd64_subset.specs.declared.operand.Operand.TheVariants.{InMemory, Register as InRegister}
use Rattle.amd64_subset.specs.declared.operand.Operands.TheVariants.{IntoRegister, IntoMemory, Immediate}
use Rattle.guest_arithmetic.specs.declared.cause.Cause.{Cause}
use Rattle.guest_operands.specs.declared.frame.Frame.{Frame}
use Rattle.guest_operands.specs.declared.state.State.{State}
use Rattle.guest_operands.specs.Access.{Accesses, load_of, store_of}
use Rattle.guest_operands.specs.Operand.{address_of, size_of}
use Rattle.guest_machine.specs.Step.{act, nop_use}
use Rattle.job_meaning.specs.declared.values.Byte.{Byte}
use Rattle.job_meaning.specs.declared.values.Flag.{Flag}
use Rattle.job_meaning.specs.declared.values.Word.{Word}
use Rattle.whole_meaning.specs.declared.marks.Mark.{Mark}
use Rattle.whole_meaning.specs.Fields.{marked_frame}
use Rattle.whole_meaning.specs.Threads.{ops}
use Rattle.cause_laws.specs.Instructions.{is_nop, memory_if, operand_of, uses_loaded}
use Rattle.cause_laws.specs.Operands as operands
use Rattle.cause_laws.specs.Operands.{address_words, first_mark, number_in, offset_of, operand_address, words_by}
use Rattle.cause_laws.specs.Steps as steps
use Rattle.cause_laws.specs.Steps.{accesses_of, bytes_of, first_loaded, load_at, loaded_words, register_words}
use Rattle.cause_laws.specs.Steps.{operand_words, store_at, used_flags, word_in, words_of}
use Rattle.cause_laws.proofs.Addresses.{SaysBy, address-says}
use Rattle.cause_laws.proofs.Picks.{pick, word_cause}
use Rattle.cause_laws.proofs.Touches.{Same, same-by, same-word}
use Rattle.cause_laws.proofs.Uses.{FitsAll, aw_if, FitsNop, NotShut, Tells, act-tells, all_words, at_address, cause_of}
use Rattle.cause_laws.proofs.Uses.{loaded_by, loaded_of}

size-is : (width : Width) → size_of width ≡ bytes_of width
size-is LongWidth = refl
size-is QuadWidth = refl

module _ {M : Type 0} (acc : Accesses M Byte) (mark : ℕ → Mark) (state : State Word Flag) (m : M) (it : Decoded)
    (bare : operands.address_of (first_mark mark state it it.disp) ≡ None)
    (no-field : (marked_frame mark state.place it).immediate_field ≡ None)
    (open_load : (place size : ℕ) → NotShut (load_of ops acc m place size))
    (open_store : (place size : ℕ) (word : Word) → NotShut (store_of ops acc m place size word)) where
  abbrev frame : Frame
  frame = marked_frame mark state.place it

  abbrev aw : Memory → List Word
  aw memory = address_words mark state it memory

  abbrev mine : Operation → List Word
  mine op = loaded_by acc frame state m aw no-field open_load open_store op

  -- ** the word that is loaded

  at-is : (size : ℕ) (r : Result ℕ Cause) (o : Option ℕ) → Same r o
      → at_address acc frame state m aw no-field open_load open_store size r ≡ first_loaded acc m (load_at size o)
  at-is size (Ok a) o e = rw e refl
  at-is size (Err why) o e = rw e refl

  store-first : (size : ℕ) (o : Option ℕ) → first_loaded acc m (store_at size o) ≡ []
  store-first size None = refl
  store-first size (Some a) = refl

  then-store : (size size' : ℕ) (o o' : Option ℕ)
      → first_loaded acc m (load_at size o ++ store_at size' o') ≡ first_loaded acc m (load_at size o)
  then-store size size' None o' = store-first size' o'
  then-store size size' (Some a) o' = refl

  abbrev of_operand : ℕ → Operand → List Word
  of_operand size operand = first_loaded acc m (steps.loads mark state it size operand)

  loaded-is : (size : ℕ) (operand : Operand)
      → loaded_of acc frame state m aw no-field open_load open_store size operand ≡ of_operand size operand
  loaded-is size (InRegister r) = refl
  loaded-is size (InMemory memory) =
      rw bare (at-is size _ _ (same-by (operands.offset_field mark state it) _ _ _ (address-says mark state it memory)))

  wide-is : (width : Width) (operand : Operand)
      → loaded_of acc frame state m aw no-field open_load open_store (size_of width) operand
      ≡ of_operand (bytes_of width) operand
  wide-is width operand = loaded-is (size_of width) operand ∙ ap (λ (n : ℕ). of_operand n operand) (size-is width)

  changed-is : (width : Width) (operand : Operand)
      → loaded_of acc frame state m aw no-field open_load open_store (size_of width) operand
      ≡ first_loaded acc m (steps.changes mark state it (bytes_of width) operand)
  changed-is width operand = wide-is width operand ∙ sym (then-store (bytes_of width) (bytes_of width) _ _)

  pub loads-are : (op : Operation)
      → mine op ≡ (if uses_loaded op then first_loaded acc m (accesses_of mark state it op) else [])
  unfolding accesses_of uses_loaded
  loads-are (Move width operands) = refl
  loads-are (StoreByte to from) = refl
  loads-are (ExtendByte width to from) = refl
  loads-are (ExtendLong to from) = refl
  loads-are (LoadAddress width to from) = refl
  loads-are (Compute arithmetic width (IntoRegister to from)) = wide-is width from
  loads-are (Compute Compare width (IntoMemory to from)) = wide-is width (InMemory to)
  loads-are (Compute Add width (IntoMemory to from)) = changed-is width (InMemory to)
  loads-are (Compute Or width (IntoMemory to from)) = changed-is width (InMemory to)
  loads-are (Compute And width (IntoMemory to from)) = changed-is width (InMemory to)
  loads-are (Compute Sub width (IntoMemory to from)) = changed-is width (InMemory to)
  loads-are (Compute Xor width (IntoMemory to from)) = changed-is width (InMemory to)
  loads-are (Compute Compare width (Immediate to)) = wide-is width to
  loads-are (Compute Add width (Immediate to)) = changed-is width to
  loads-are (Compute Or width (Immediate to)) = changed-is width to
  loads-are (Compute And width (Immediate to)) = changed-is width to
  loads-are (Compute Sub width (Immediate to)) = changed-is width to
  loads-are (Compute Xor width (Immediate to)) = changed-is width to
  loads-are (Test width operand right) = wide-is width operand
  loads-are (Multiply width to from) = wide-is width from
  loads-are (ShiftBy shift width to count) = changed-is width to
  loads-are (Push from) = refl
  loads-are (Pop to) = refl
  loads-are Leave = refl
  loads-are (Call (Relative distance)) = sym (store-first 8 _)
  loads-are (Call (Indirect operand)) = loaded-is 8 operand ∙ sym (then-store 8 8 _ _)
  loads-are (Jump (Relative distance)) = refl
  loads-are (Jump (Indirect operand)) = loaded-is 8 operand
  loads-are (JumpIf condition distance) = refl
  loads-are Return = at-is 8 _ _ (same-word state.registers.rsp)
  loads-are (Nop operand) = refl
  loads-are Undefined = refl

  -- ** its words and flags

  operand-is : (nop : Bool) (o : Option Memory)
      → aw_if acc frame state m aw no-field open_load open_store nop o ≡ operand_words mark state it nop o
  operand-is true None = refl
  operand-is false None = refl
  operand-is true (Some memory) = refl
  operand-is false (Some memory) = refl

  pub words-are : offset_of (first_mark mark state it it.imm) ≡ None
      → all_words acc frame state m aw no-field open_load open_store it.instr.operation
      ≡ words_of acc mark state m (Some it)
  words-are none = rw (
    none,
    operand-is (is_nop it.instr.operation) (operand_of it.instr.operation),
    loads-are it.instr.operation,
  ) refl

  -- without an offset field each address has the cause of its words
  fits-none : operands.offset_field mark state it ≡ None
      → FitsAll acc frame state m aw no-field open_load open_store it.instr.operation
  fits-none none memory e = rw none (by_cause (address_of ops frame state memory) (operand_address mark state it memory)
      (subst (λ (o : Option ℕ). SaysBy o (address_of ops frame state memory) (operand_address mark state it memory)
      (words_by mark state it None memory)) none
      (address-says mark state it memory)))
    where
      by_cause : (r : Result ℕ Cause) (o : Option ℕ) → SaysBy None r o (words_by mark state it None memory)
          → cause_of r ≡ word_cause (words_by mark state it None memory)
      by_cause (Ok a) o h = sym h.1
      by_cause (Err why) o h = sym h.1

  -- with an allowed one the address has none
  fits-some : (n : ℕ) → operands.offset_field mark state it ≡ Some n → (x : Memory) (a : ℕ)
      → operand_of it.instr.operation ≡ Some x
      → address_of ops frame state x ≡ Ok a
      → FitsAll acc frame state m aw no-field open_load open_store it.instr.operation
  fits-some n some x a there at memory e =
      let both : Some x ≡ Some memory = sym there ∙ e in
      let same : x ≡ memory = cc in
      rw (some, ← same, at) refl

  nop-by : (fld : Option ℕ) (o : Option Operand) → (fld ≡ None) → cause_of (nop_use ops frame state fld o) ≡ None
  nop-by None o e = refl
  nop-by (Some at) o e = absurd cc

  nop-at : (fld : Option ℕ) (o : Option Operand) (x : Memory) (a : ℕ) → memory_if o ≡ Some x
      → address_of ops frame state x ≡ Ok a
      → cause_of (nop_use ops frame state fld o) ≡ None
  nop-at fld None x a e at = absurd cc
  nop-at None (Some operand) x a e at = refl
  nop-at (Some k) (Some (InRegister r)) x a e at = absurd cc
  nop-at (Some k) (Some (InMemory y)) x a e at = let same : x ≡ y = cc in rw (← same, at) refl

  pub bare-tells : offset_of (first_mark mark state it it.imm) ≡ None
      → FitsAll acc frame state m aw no-field open_load open_store it.instr.operation
      → FitsNop acc frame state m aw no-field open_load open_store it.instr.operation
      → Tells state.place (act ops acc frame it.instr.operation state m)
      (pick (words_of acc mark state m (Some it)) (used_flags acc mark state m (Some it)))
  bare-tells none fits nop = rw (← words-are none)
      (act-tells acc frame state m aw no-field open_load open_store it.instr.operation fits nop)

  pub none-tells : offset_of (first_mark mark state it it.imm) ≡ None → operands.offset_field mark state it ≡ None
      → frame.displacement_field ≡ None → Tells state.place (act ops acc frame it.instr.operation state m)
      (pick (words_of acc mark state m (Some it)) (used_flags acc mark state m (Some it)))
  none-tells lacks none field = bare-tells lacks (fits-none none) (λ o e. nop-by frame.displacement_field o field)

  memory-of-nop : (o : Option Operand) → operand_of (Nop o) ≡ memory_if o
  unfolding operand_of
  memory-of-nop o = refl

  pub some-tells : offset_of (first_mark mark state it it.imm) ≡ None → (n : ℕ)
      → operands.offset_field mark state it ≡ Some n
      → (x : Memory) (a : ℕ) → operand_of it.instr.operation ≡ Some x → address_of ops frame state x ≡ Ok a
      → Tells state.place (act ops acc frame it.instr.operation state m)
      (pick (words_of acc mark state m (Some it)) (used_flags acc mark state m (Some it)))
  some-tells lacks n some x a there at = bare-tells lacks (fits-some n some x a there at)
      (λ o e. nop-at frame.displacement_field o x a (sym (memory-of-nop o) ∙ (sym (ap operand_of e) ∙ there)) at)

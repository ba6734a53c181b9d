-- An instruction whose operand an address field supplies has the first cause of the table's words and flags.
use Rattle.std.proofs.Common.{◌≡◌, ℕ, Bool, true, false, List, [], ◌∷◌, ◌++◌, map, Option, Some, None, Ok, refl, sym}
use Rattle.std.proofs.Common.{ap, subst, ◌∙◌, append-nil}
use Rattle.std.specs.Prelude.{if◌then◌else◌}
use Rattle.amd64_subset.specs.declared.instr.Arithmetic.TheVariants.{Add, Or, And, Sub, Xor, Compare}
use Rattle.amd64_subset.specs.declared.instr.Decoded.{Decoded}
use Rattle.amd64_subset.specs.declared.instr.Operation.{Operation}
use Rattle.amd64_subset.specs.declared.instr.Operation.TheVariants.{Move, StoreByte, ExtendByte, ExtendLong}
use Rattle.amd64_subset.specs.declared.instr.Operation.TheVariants.{LoadAddress, Compute, Test, Multiply}
use Rattle.amd64_subset.specs.declared.instr.Operation.TheVariants.{Shift as ShiftBy, Push, Pop, Leave, Call, Jump}
use Rattle.amd64_subset.specs.declared.instr.Operation.TheVariants.{JumpIf, Return, Nop, Undefined}
use Rattle.amd64_subset.specs.declared.instr.Target.TheVariants.{Relative, Indirect}
use Rattle.amd64_subset.specs.declared.instr.Width.TheVariants.{Long as LongWidth, Quad as QuadWidth}
use Rattle.amd64_subset.specs.declared.operand.Base.{Base}
use Rattle.amd64_subset.specs.declared.operand.Base.TheVariants.{Absolute, NextInstruction, Register as OfRegister}
use Rattle.amd64_subset.specs.declared.operand.Index.{Index}
use Rattle.amd64_subset.specs.declared.operand.Memory.{Memory}
use Rattle.amd64_subset.specs.declared.operand.Operand.{Operand}
use Rattle.amd64_subset.specs.declared.operand.Operand.TheVariants.{InMemory, Register as InRegister}
use Rattle.amd64_subset.specs.declared.operand.Operands.TheVariants.{IntoRegister, IntoMemory, Immediate}
use Rattle.guest_arithmetic.specs.declared.cause.Cause.{Cause}
use Rattle.guest_operands.specs.declared.frame.Frame.{Frame}
use Rattle.guest_operands.specs.declared.state.State.{State}
use Rattle.guest_operands.specs.Access.{Accesses, bytes_from, load_of, store_of}
use Rattle.guest_operands.specs.Operand.{address_of}
use Rattle.guest_machine.specs.Step.{act}
use Rattle.job_meaning.specs.declared.values.Byte.{Byte}
use Rattle.job_meaning.specs.declared.values.Flag.{Flag}
use Rattle.job_meaning.specs.declared.values.Word.{Word}
use Rattle.job_meaning.specs.Marked.{marked_operations}
use Rattle.whole_meaning.specs.declared.marks.Mark.{Mark}
use Rattle.whole_meaning.specs.Threads.{ops}
use Rattle.step_laws.specs.Reads.{flags_read}
use Rattle.cause_laws.specs.Instructions.{is_nop, memory_of, operand_of, read_operand, registers_used, uses_loaded}
use Rattle.cause_laws.specs.Operands as operands
use Rattle.cause_laws.specs.Operands.{first_mark, is_from_next, offset_of}
use Rattle.cause_laws.specs.Steps as steps
use Rattle.cause_laws.specs.Steps.{accesses_of, first_loaded, load_at, operand_words, store_at, used_flags, word_in}
use Rattle.cause_laws.specs.Steps.{words_of}
use Rattle.cause_laws.proofs.Picks.{earlier, earlier-none, pick, pick-append, word_cause}
use Rattle.cause_laws.proofs.Uses.{FitsAll, FitsNop, NotShut, Tells, act-tells, aw_if, loaded_by, loaded_of}

-- the word that a number's eight bytes hold has no cause
number-word : (number : ℕ) → word_cause (ops.joined (bytes_from ops (ops.word number) 0 8) ∷ []) ≡ None
unfolding marked_operations
number-word number = refl

-- acc: the thread's memory; lent: the one where the word is read
module _ {M : Type 0} (acc lent : Accesses M Byte) (mark : ℕ
    → Mark) (f : Frame) (state : State Word Flag) (m : M) (it : Decoded)
    (number : ℕ) (no-field : f.immediate_field ≡ None)
    (supplied : operands.address_of (first_mark mark state it it.disp) ≡ Some number)
    (open_load : (place size : ℕ) → NotShut (load_of ops lent m place size))
    (open_store : (place size : ℕ) (word : Word) → NotShut (store_of ops lent m place size word))
    (x : Memory) (at : address_of ops f state x ≡ Ok 0)
    (loads : load_of ops lent m 0 8 ≡ Ok (ops.joined (bytes_from ops (ops.word number) 0 8))) where
  abbrev aw : Memory → List Word
  aw memory = []

  abbrev theirs : Operation → List Word
  theirs op = loaded_by lent f state m aw no-field open_load open_store op

  abbrev mine : Operation → List Word
  mine op = if uses_loaded op then first_loaded acc m (accesses_of mark state it op) else []

  no-load : (size : ℕ) (o : Operand) → steps.loads mark state it size o ≡ []
  no-load size (InRegister r) = refl
  no-load size (InMemory memory) = rw supplied refl

  store-first : (size : ℕ) (o : Option ℕ) → first_loaded acc m (store_at size o) ≡ []
  store-first size None = refl
  store-first size (Some a) = refl

  loaded-cause : (operand : Operand) → memory_of operand ≡ Some x
      → word_cause (loaded_of lent f state m aw no-field open_load open_store 8 operand) ≡ None
  loaded-cause (InRegister r) e = refl
  loaded-cause (InMemory y) e = let same : x ≡ y = cc in rw (← same, at, loads) (number-word number)

  no-first : (operand : Operand) → first_loaded acc m (steps.loads mark state it 8 operand) ≡ []
  no-first operand = rw (no-load 8 operand) refl

  no-then : (operand : Operand)
      → first_loaded acc m (steps.loads mark state it 8 operand ++ steps.pushes mark state it) ≡ []
  no-then operand = rw (no-load 8 operand) (store-first 8 _)

  abbrev Lent : Operation → Type 0
  Lent op = (word_cause (theirs op) ≡ None) × ((mine op ≡ []) × (operand_of op ≡ Some x))

  read-lent : (op : Operation) → read_operand op ≡ Some x → Lent op
  unfolding accesses_of uses_loaded read_operand operand_of
  read-lent (Move QuadWidth (IntoRegister to from)) e = (refl, (refl, e))
  read-lent (Move QuadWidth (IntoMemory to from)) e = absurd cc
  read-lent (Move QuadWidth (Immediate to)) e = absurd cc
  read-lent (Move LongWidth operands) e = absurd cc
  read-lent (StoreByte to from) e = absurd cc
  read-lent (ExtendByte width to from) e = absurd cc
  read-lent (ExtendLong to from) e = absurd cc
  read-lent (LoadAddress width to from) e = absurd cc
  read-lent (Compute arithmetic LongWidth operands) e = absurd cc
  read-lent (Compute arithmetic QuadWidth (IntoRegister to from)) e = (loaded-cause from e, (no-first from, e))
  read-lent (Compute Compare QuadWidth (IntoMemory to from)) e =
      (loaded-cause (InMemory to) e, (no-first (InMemory to), e))
  read-lent (Compute Add QuadWidth (IntoMemory to from)) e = absurd cc
  read-lent (Compute Or QuadWidth (IntoMemory to from)) e = absurd cc
  read-lent (Compute And QuadWidth (IntoMemory to from)) e = absurd cc
  read-lent (Compute Sub QuadWidth (IntoMemory to from)) e = absurd cc
  read-lent (Compute Xor QuadWidth (IntoMemory to from)) e = absurd cc
  read-lent (Compute Compare QuadWidth (Immediate to)) e = (loaded-cause to e, (no-first to, e))
  read-lent (Compute Add QuadWidth (Immediate to)) e = absurd cc
  read-lent (Compute Or QuadWidth (Immediate to)) e = absurd cc
  read-lent (Compute And QuadWidth (Immediate to)) e = absurd cc
  read-lent (Compute Sub QuadWidth (Immediate to)) e = absurd cc
  read-lent (Compute Xor QuadWidth (Immediate to)) e = absurd cc
  read-lent (Test QuadWidth operand right) e = (loaded-cause operand e, (no-first operand, e))
  read-lent (Test LongWidth operand right) e = absurd cc
  read-lent (Multiply QuadWidth to from) e = (loaded-cause from e, (no-first from, e))
  read-lent (Multiply LongWidth to from) e = absurd cc
  read-lent (ShiftBy shift width to count) e = absurd cc
  read-lent (Push from) e = absurd cc
  read-lent (Pop to) e = absurd cc
  read-lent Leave e = absurd cc
  read-lent (Call (Relative distance)) e = absurd cc
  read-lent (Call (Indirect operand)) e = (loaded-cause operand e, (no-then operand, e))
  read-lent (Jump (Relative distance)) e = absurd cc
  read-lent (Jump (Indirect operand)) e = (loaded-cause operand e, (no-first operand, e))
  read-lent (JumpIf condition distance) e = absurd cc
  read-lent Return e = absurd cc
  read-lent (Nop operand) e = absurd cc
  read-lent Undefined e = absurd cc

  -- ** its words

  no-words : (nop : Bool) (o : Option Memory) → aw_if lent f state m aw no-field open_load open_store nop o ≡ []
  no-words true None = refl
  no-words false None = refl
  no-words true (Some memory) = refl
  no-words false (Some memory) = refl

  base-none : (b : Base) → operands.is_next b ≡ true → operands.base_words mark state it b ≡ []
  base-none Absolute e = absurd cc
  base-none NextInstruction e = refl
  base-none (OfRegister register) e = absurd cc

  index-none : (i : Option Index) → i ≡ None → operands.index_words mark state it i ≡ []
  index-none None e = refl
  index-none (Some index) e = absurd cc

  operand-none : (nop : Bool) (o : Option Memory) → o ≡ Some x → offset_of (first_mark mark state it it.disp) ≡ None
      → operands.is_next x.base ≡ true → x.index ≡ None → operand_words mark state it nop o ≡ []
  operand-none nop None e none from index = absurd cc
  operand-none true (Some y) e none from index = refl
  operand-none false (Some y) e none from index =
      let same : x ≡ y = cc in rw (← same, none, base-none x.base from, index-none x.index index) refl

  fits : (op : Operation) → operand_of op ≡ Some x → FitsAll lent f state m aw no-field open_load open_store op
  fits op there memory e =
      let both : Some x ≡ Some memory = sym there ∙ e in
      let same : x ≡ memory = cc in
      rw (← same, at) refl

  no-nop : (op : Operation) → read_operand op ≡ Some x → FitsNop lent f state m aw no-field open_load open_store op
  unfolding read_operand
  no-nop op e o is = let no : read_operand (Nop o) ≡ Some x = sym (ap read_operand is) ∙ e in absurd cc

  same-cause : (R A B A' B' : List Word) → A ≡ [] → word_cause B ≡ None → A' ≡ [] → B' ≡ []
      → word_cause (R ++ (A ++ B)) ≡ word_cause (R ++ (A' ++ B'))
  same-cause R A B A' B' a b a' b' = rw (a, a', b') (pick-append R B ∙ (ap (earlier (word_cause R)) b
      ∙ (earlier-none (word_cause R) ∙ ap word_cause (sym (append-nil R)))))

  pub lent-tells : read_operand it.instr.operation ≡ Some x → offset_of (first_mark mark state it it.disp) ≡ None
      → offset_of (first_mark mark state it it.imm) ≡ None → operands.is_next x.base ≡ true → x.index ≡ None
      → flags_read it.instr.operation state.flags ≡ []
      → Tells state.place (act ops lent f it.instr.operation state m)
      (pick (words_of acc mark state m (Some it)) (used_flags acc mark state m (Some it)))
  lent-tells read none lacks from index flags =
      let l = read-lent it.instr.operation read in
      let nop = is_nop it.instr.operation in
      let o = operand_of it.instr.operation in
      subst (λ (c : Option Cause). Tells state.place (act ops lent f it.instr.operation state m) c)
      (rw (flags, lacks) (same-cause (map (operands.value_of mark state it) (registers_used it.instr.operation))
      (aw_if lent f state m aw no-field open_load open_store nop o)
      (theirs it.instr.operation) (operand_words mark state it nop o) (mine it.instr.operation)
      (no-words nop o) l.0 (operand-none nop o l.1.1 none from index) l.1.0))
      (act-tells lent f state m aw no-field open_load open_store it.instr.operation (fits it.instr.operation l.1.1)
      (no-nop it.instr.operation read))

-- What the manual says that an instruction does, the machine does: operands, addresses and results.
use Rattle.std.proofs.Common.{◌≡◌, ℕ, ◌+◌, ◌*◌, ◌%◌, ◌^◌, ◌<◌, pos, Bool, true, false, Option, Some, None, Result, Ok}
use Rattle.std.proofs.Common.{refl, ap, sym, ap₂, arith, ◌∙◌}
use Rattle.std.specs.Prelude.{if◌then◌else◌}
use Rattle.std.proofs.lemmas.Int.{ints}
use Rattle.amd64_words.specs.declared.register.Register.{Register}
use Rattle.amd64_subset.specs.declared.instr.Decoded.{Decoded}
use Rattle.amd64_subset.specs.declared.instr.Width.{Width}
use Rattle.amd64_subset.specs.declared.instr.Width.TheVariants.{Long, Quad}
use Rattle.amd64_subset.specs.declared.operand.Base.{Base}
use Rattle.amd64_subset.specs.declared.operand.Base.TheVariants.{Absolute, NextInstruction, Register as OfRegister}
use Rattle.amd64_subset.specs.declared.operand.Index.{Index}
use Rattle.amd64_subset.specs.declared.operand.Memory.{Memory}
use Rattle.amd64_subset.specs.declared.operand.Operand.{Operand}
use Rattle.amd64_subset.specs.declared.operand.Operand.TheVariants.{InMemory, Register as InRegister}
use Rattle.amd64_subset.specs.declared.operand.Scale.{Scale}
use Rattle.amd64_subset.specs.declared.operand.Scale.TheVariants.{One, Two, Four, Eight}
use Rattle.guest_arithmetic.specs.declared.cause.Cause.{Cause}
use Rattle.guest_arithmetic.specs.declared.effect.Effect.{Effect}
use Rattle.guest_arithmetic.specs.declared.flags.Flags.{Flags}
use Rattle.guest_arithmetic.specs.Arithmetic.{span_of}
use Rattle.guest_arithmetic.specs.Cause.{both, used}
use Rattle.guest_arithmetic.specs.Flags.{with_changes}
use Rattle.guest_arithmetic.specs.Plain.{plain_operations}
use Rattle.guest_operands.specs.declared.frame.Frame.{Frame}
use Rattle.guest_operands.specs.declared.slot.Slot.{Slot}
use Rattle.guest_operands.specs.declared.slot.Slot.TheVariants.{Place, Register as OfSlot}
use Rattle.guest_operands.specs.declared.state.Registers.{Registers}
use Rattle.guest_operands.specs.declared.state.State.{State}
use Rattle.guest_operands.specs.declared.stop.Stop.{Stop}
use Rattle.guest_operands.specs.Access.{Accesses, Refusal, load_of, store_of}
use Rattle.guest_operands.specs.Operand.{weighed, size_of, factor_of, base_of, index_of, address_of, number_at}
use Rattle.guest_operands.specs.Operand.{taken_at, taken, put}
use Rattle.guest_operands.specs.RangeLaws.{range_accesses}
use Rattle.guest_operands.specs.State.{register_of, with_register}
use Rattle.guest_operands.specs.Use.{◌>>=◌, plus, there, After, left}
use Rattle.guest_machine.specs.Step.{finished, settled}
use Rattle.instruction_laws.specs.Conditions.{Become}
use Rattle.instruction_laws.specs.Words.{words, IsCut}
use Rattle.instruction_laws.specs.Steps.{Numbers, bytes, times, base, index, segment, IsAddress, Has, IsLeftAt, IsLeft}
use Rattle.instruction_laws.specs.Steps.{Puts}
use Rattle.instruction_laws.proofs.Comparing.{change}
use Rattle.instruction_laws.proofs.Multiplying.{pos_cut}
use Rattle.instruction_laws.proofs.Words.{only_cut}

-- an instruction that no offset field stands in
abbrev pub frame_at : Decoded → ℕ → Frame
frame_at d place = record {
  next = plus place d.len;
  displacement = d.instr.displacement;
  immediate = d.instr.immediate;
  displacement_field = None;
  immediate_field = None;
}

-- ** numbers

pub low_is : (width : Width) (n word : ℕ) → IsCut width n (pos word) → word % span_of width ≡ n
low_is width n word is = only_cut width (pos word) (word % span_of width) n (pos_cut width word word 0 0 refl) is

pub whole : (width : Width) (n : ℕ) → n < words width → n % 2 ^ 64 ≡ n
whole Long n below = omega arith
whole Quad n below = omega arith

low_whole : (width : Width) (n : ℕ) → n < words width → n % span_of width ≡ n
low_whole Long n below = omega arith
low_whole Quad n below = omega arith

pub sizes : (width : Width) → size_of width ≡ bytes width
sizes Long = refl
sizes Quad = refl

-- ** addresses

abbrev pub Outcome : Type 0
Outcome = Result (After ℕ Bool Numbers) Stop

abbrev pub done : State ℕ Bool → Numbers → Outcome
done state memory = Ok (left state memory)

abbrev pub acc : Accesses Numbers ℕ
acc = range_accesses plain_operations

module _ (d : Decoded) (before : State ℕ Bool) (memory : Numbers) where
  abbrev pub frame : Frame
  frame = frame_at d before.place

  factors : (scale : Scale) → factor_of scale ≡ times scale
  factors One = refl
  factors Two = refl
  factors Four = refl
  factors Eight = refl

  index_is : (it : Option Index) → (w : ℕ) × (index_of plain_operations before.registers it ≡ Ok w) ×
      (w ≡ index d before memory it % 2 ^ 64)
  unfolding index_of plain_operations
  index_is None = (0, refl, refl)
  index_is (Some it) = (_, refl, ap (λ f. register_of before.registers it.register * f % 2 ^ 64) (factors it.scale))

  base_is : (it : Base) → (w : ℕ) × (base_of plain_operations None d.instr.displacement (plus before.place d.len)
      before.registers it ≡ Ok w)
      × (w % 2 ^ 64 ≡ (base d before memory it + d.instr.displacement) % 2 ^ 64)
  unfolding base_of plain_operations
  base_is Absolute = (_, refl, omega arith)
  base_is NextInstruction = (_, refl, omega arith)
  base_is (OfRegister register) = (_, refl, omega arith)

  segment_is : (it : Bool) → (if it then before.thread_pointer else 0) ≡ segment d before memory it
  segment_is true = refl
  segment_is false = refl

  sums : (p b i c B I D : ℕ) → b % 2 ^ 64 ≡ (B + D) % 2 ^ 64 → i ≡ I % 2 ^ 64 → IsCut Quad p (pos (B + I + D + c))
      → ((b + i) % 2 ^ 64 + c) % 2 ^ 64 ≡ p
  sums p b i c B I D same also is = omega (arith, ints, same, also, is.below, is.same)

  pub address_is : (operand : Memory) (place : ℕ) → IsAddress d before memory operand place
      → address_of plain_operations frame before operand ≡ Ok place
  unfolding address_of
  address_is operand place is =
      let b = base_is operand.base in
      let i = index_is operand.index in
      let c = segment d before memory operand.from_thread_pointer in
      ap₂ (λ (x y : Result ℕ Cause). used (λ parts. plus (plus parts.0 parts.1)
      (if operand.from_thread_pointer then before.thread_pointer else 0)) (both x y)) b.1 i.1
      ∙ ap (λ (t : ℕ). Ok (plus (plus b.0 i.0) t)) (segment_is operand.from_thread_pointer)
      ∙ ap Ok (sums place b.0 i.0 c (base d before memory operand.base) (index d before memory operand.index)
      d.instr.displacement b.2 i.2 is)

  pub one_address : (operand : Memory) (p q : ℕ) → IsAddress d before memory operand p → IsAddress d before memory
      operand q
      → p ≡ q
  one_address operand p q = only_cut Quad _ p q

  -- ** operands

  pub register_number : (width : Width) (register : Register) (n : ℕ) → Has d before memory width
      (InRegister register) n
      → number_at plain_operations width (register_of before.registers register) ≡ Ok n
  unfolding number_at plain_operations
  register_number width register n is = ap Ok (low_is width n _ is)

  -- where an operand is
  abbrev pub IsSlot : Operand → Slot → Type 0
  IsSlot (InRegister register) slot = slot ≡ OfSlot register
  IsSlot (InMemory operand) slot = (place : ℕ) × (IsAddress d before memory operand place) × (slot ≡ Place place)

  pub record IsTaken (width : Width) (operand : Operand) (n b : ℕ) : Type 0 where
    pub slot : Slot
    pub is : taken plain_operations acc width frame before memory operand (Ok b)
        ≡ Ok (record { slot = slot; number = n; other = b })
    pub is_slot : IsSlot operand slot

  pub take : (width : Width) (operand : Operand) (n b : ℕ) → Has d before memory width operand n → IsTaken width
      operand n b
  unfolding taken taken_at number_at plain_operations
  take width (InRegister register) n b has = record {
    slot = OfSlot register;
    is = ap (λ (n : ℕ). Ok (record { slot = OfSlot register; number = n; other = b })) (low_is width n _ has);
    is_slot = refl;
  }
  take width (InMemory operand) n b has = record {
    slot = Place has.place;
    is = ap (λ r. taken_at plain_operations acc width before.place memory r (Ok b))
        (address_is operand has.place has.address)
        ∙ ap (λ size. weighed plain_operations acc width before.place
        (load_of plain_operations acc memory has.place size) (Ok b)
        >>= λ parts. Ok (record { slot = Place has.place; number = parts.0; other = parts.1 })) (sizes width)
        ∙ ap (λ r. weighed plain_operations acc width before.place r (Ok b)
        >>= λ parts. Ok (record { slot = Place has.place; number = parts.0; other = parts.1 })) has.loaded
        ∙ ap (λ (n : ℕ). Ok (record { slot = Place has.place; number = n; other = b })) (low_whole width n has.below);
    is_slot = (has.place, has.address, refl);
  }

  -- ** what is left

  pub same_state : (registers : Registers ℕ) (flags : Flags Bool) (place : ℕ) (after : State ℕ Bool)
      → after.registers ≡ registers → after.flags ≡ flags → after.place ≡ place
      → after.thread_pointer ≡ before.thread_pointer
      → record { registers = registers; flags = flags; place = place; thread_pointer = before.thread_pointer } ≡ after
  same_state registers flags place after p q r s = λ i. record {
    registers = sym p i;
    flags = sym q i;
    place = sym r i;
    thread_pointer = sym s i;
  }

  pub left_as : (place : ℕ) (registers : Registers ℕ) (flags : Flags Bool) (after : State ℕ Bool)
      → IsLeftAt d before memory (pos place) registers flags after
      → record {
        registers = registers;
        flags = flags;
        place = place % 2 ^ 64;
        thread_pointer = before.thread_pointer;
      } ≡ after
  left_as place registers flags after is =
      same_state registers flags (place % 2 ^ 64) after is.registers_are is.flags_are
      (sym (low_is Quad after.place place is.place_is)) is.thread

  -- with nothing written
  pub goes : (registers : Registers ℕ) (flags : Flags Bool) (after : State ℕ Bool) (memory' : Numbers)
      → IsLeft d before memory registers flags after → memory' ≡ memory
      → done (record {
        registers = registers;
        flags = flags;
        place = plus before.place d.len;
        thread_pointer =
            before.thread_pointer;
      }) memory
      ≡ done after memory'
  goes registers flags after memory' is same = λ i. Ok
      (left (left_as (before.place + d.len) registers flags after is i) (sym same i))

  -- a result in its slot
  pub flags_are : (effect : Effect) (after : State ℕ Bool) → Become effect.changes before.flags after.flags
      → with_changes plain_operations effect.changes before.flags ≡ after.flags
  flags_are effect after become = (change effect.changes before.flags after.flags).1 become

  finish_register : (width : Width) (register : Register) (effect : Effect) (after : State ℕ Bool) (memory' : Numbers)
      → effect.number < words width → Become effect.changes before.flags after.flags
      → Puts d before memory width (InRegister register) effect.number after.flags after memory'
      → finished plain_operations acc width (OfSlot register) effect frame before memory ≡ Ok (left after memory')
  unfolding finished put plain_operations
  finish_register width register effect after memory' below become puts =
      (λ i. Ok (left (record {
        registers = with_register before.registers register (whole width effect.number below i);
        flags = flags_are effect after become i;
        place = plus before.place d.len;
        thread_pointer = before.thread_pointer;
      }) memory))
      ∙ goes (with_register before.registers register effect.number) after.flags after memory' puts.0 puts.1

  -- the memory of a store, and then the rest
  abbrev write_then : Effect → Result Numbers Refusal → Result (After ℕ Bool Numbers) Stop
  write_then effect stored = (there before.place stored >>= λ m. Ok (left before m))
      >>= λ it. Ok (left (settled plain_operations effect.changes frame it.state) it.memory)

  finish_memory : (width : Width) (operand : Memory) (place : ℕ) (effect : Effect) (after : State ℕ Bool)
      (memory' : Numbers)
      → IsAddress d before memory operand place → effect.number < words width → Become effect.changes before.flags
      after.flags
      → Puts d before memory width (InMemory operand) effect.number after.flags after memory'
      → finished plain_operations acc width (Place place) effect frame before memory ≡ Ok (left after memory')
  unfolding finished put plain_operations
  finish_memory width operand place effect after memory' address below become puts =
      let here = one_address operand place puts.1.place address puts.1.address in
      (λ i. write_then effect (store_of plain_operations acc memory (here i) (sizes width i)
      (whole width effect.number below i)))
      ∙ ap (write_then effect) puts.1.stored
      ∙ (λ i. Ok (left (record {
        registers = before.registers;
        flags = flags_are effect after become i;
        place = plus before.place d.len;
        thread_pointer = before.thread_pointer;
      }) memory'))
      ∙ (λ i. Ok (left (left_as (before.place + d.len) before.registers after.flags after puts.0 i) memory'))

  pub finish : (width : Width) (operand : Operand) (slot : Slot) (effect : Effect) (after : State ℕ Bool)
      (memory' : Numbers)
      → IsSlot operand slot → effect.number < words width → Become effect.changes before.flags after.flags
      → Puts d before memory width operand effect.number after.flags after memory'
      → finished plain_operations acc width slot effect frame before memory ≡ Ok (left after memory')
  finish width (InRegister register) slot effect after memory' is below become puts =
      ap (λ s. finished plain_operations acc width s effect frame before memory) is
      ∙ finish_register width register effect after memory' below become puts
  finish width (InMemory operand) slot effect after memory' is below become puts =
      ap (λ s. finished plain_operations acc width s effect frame before memory) is.2
      ∙ finish_memory width operand is.0 effect after memory' is.1 below become puts

  -- cmp and test
  pub settle : (effect : Effect) (after : State ℕ Bool) (memory' : Numbers) → Become effect.changes before.flags
      after.flags
      → IsLeft d before memory before.registers after.flags after → memory' ≡ memory
      → done (settled plain_operations effect.changes frame before) memory ≡ done after memory'
  settle effect after memory' become is same = (λ i. Ok (left (record {
    registers = before.registers;
    flags = flags_are effect after become i;
    place = plus before.place d.len;
    thread_pointer = before.thread_pointer;
  }) memory))
      ∙ goes before.registers after.flags after memory' is same

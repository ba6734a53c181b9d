-- What the manual's answer for an operation is built of: operands that are loaded, results that are stored.
use Rattle.std.proofs.Common.{◌≡◌, ℕ, ◌+◌, ◌%◌, ◌^◌, ◌<◌, pos, Bool, Result, Ok, Err, refl, ap, sym, subst, ◌∙◌}
use Rattle.amd64_subset.specs.declared.instr.Decoded.{Decoded}
use Rattle.amd64_subset.specs.declared.instr.Operation.{Operation}
use Rattle.amd64_subset.specs.declared.instr.Width.{Width}
use Rattle.amd64_subset.specs.declared.instr.Width.TheVariants.{Quad}
use Rattle.amd64_subset.specs.declared.operand.Memory.{Memory}
use Rattle.amd64_subset.specs.declared.operand.Operand.{Operand}
use Rattle.amd64_subset.specs.declared.operand.Operand.TheVariants.{InMemory, Register as InRegister}
use Rattle.guest_arithmetic.specs.declared.cause.Cause.{Cause}
use Rattle.guest_arithmetic.specs.declared.effect.Effect.{Effect}
use Rattle.guest_arithmetic.specs.declared.flags.Flags.{Flags}
use Rattle.guest_arithmetic.specs.Plain.{plain_operations}
use Rattle.guest_operands.specs.declared.slot.Slot.{Slot}
use Rattle.guest_operands.specs.declared.slot.Slot.TheVariants.{Place}
use Rattle.guest_operands.specs.declared.slot.Taken.{Taken}
use Rattle.guest_operands.specs.declared.state.Registers.{Registers}
use Rattle.guest_operands.specs.declared.state.State.{State}
use Rattle.guest_operands.specs.Access.{Refusal, load_of, store_of}
use Rattle.guest_operands.specs.Operand.{address_of, carried, put, size_of, taken, taken_at, weighed}
use Rattle.guest_operands.specs.State.{register_of, with_register, at_place}
use Rattle.guest_operands.specs.Use.{◌>>=◌, plus, clean, there, After, left}
use Rattle.guest_machine.specs.Step.{act, stored, finished, settled}
use Rattle.instruction_laws.specs.Laws.{HasBytes}
use Rattle.instruction_laws.specs.Words.{words}
use Rattle.instruction_laws.specs.Steps.{Numbers, bytes, base, index, segment, IsAddress, Has, IsLeftAt, Puts, Does}
use Rattle.instruction_laws.proofs.Accessing.{ok_first, then_is, there_ok, loads_below}
use Rattle.instruction_laws.proofs.Multiplying.{pos_cut}
use Rattle.instruction_laws.proofs.Stepping.{done, acc, frame, whole, sizes, address_is, one_address, IsSlot}

module _ (d : Decoded) (before : State ℕ Bool) (memory : Numbers) where
  -- what is done by one operation
  abbrev pub Found : (State ℕ Bool → Numbers → Type 0) → Type 0
  Found Do = (after : State ℕ Bool) × (memory' : Numbers) × Do after memory'

  abbrev pub Ends : Operation → Type 0
  Ends operation = (y : After ℕ Bool Numbers) → act plain_operations acc (frame d before memory) operation before memory
      ≡ Ok y → Found (Does d before memory operation)

  -- ** operands

  abbrev pub sum_of : Memory → ℕ
  sum_of operand = base d before memory operand.base + index d before memory operand.index + d.instr.displacement
      + segment d before memory operand.from_thread_pointer

  abbrev pub place_of : Memory → ℕ
  place_of operand = sum_of operand % 2 ^ 64

  pub at_address : (operand : Memory) → IsAddress d before memory operand (place_of operand)
  at_address operand = pos_cut Quad (sum_of operand) (sum_of operand) 0 0 refl

  pub addressed : (operand : Memory)
      → address_of plain_operations (frame d before memory) before operand ≡ Ok (place_of operand)
  addressed operand = address_is d before memory operand (place_of operand) (at_address operand)

  -- an operand in memory is loaded
  abbrev pub Loads : Width → Operand → Type 0
  Loads width (InRegister register) = Unit {0}
  Loads width (InMemory operand) =
      (n : ℕ) × (load_of plain_operations acc memory (place_of operand) (bytes width) ≡ Ok n)

  pub operand_found : HasBytes memory → (width : Width) (operand : Operand) → Loads width operand
      → (n : ℕ) × Has d before memory width operand n
  operand_found small width (InRegister register) loads =
      (_, pos_cut width (register_of before.registers register) (register_of before.registers register) 0 0 refl)
  operand_found small width (InMemory operand) loads = (
    loads.0,
    record {
      place = place_of operand;
      address = at_address operand;
      loaded = loads.1;
      below = loads_below memory small width (place_of operand) loads.0 loads.1;
    },
  )

  pub has_below : (width : Width) (operand : Operand) (n : ℕ) → Has d before memory width operand n → n < words width
  has_below width (InRegister register) n is = is.below
  has_below width (InMemory operand) n is = is.below

  pub loaded_at : (size : ℕ) (operand : Memory) (n : ℕ)
      → (clean before.place (address_of plain_operations (frame d before memory) before operand) >>= λ place.
      there before.place (load_of plain_operations acc memory place size)) ≡ Ok n
      → load_of plain_operations acc memory (place_of operand) size ≡ Ok n
  loaded_at size operand n is = there_ok before.place (load_of plain_operations acc memory (place_of operand) size) n
      (then_is (clean before.place (address_of plain_operations (frame d before memory) before operand))
      (λ place. there before.place (load_of plain_operations acc memory place size)) (place_of operand) n
      (ap (clean before.place) (addressed operand)) is)

  pub carried_loads : (width : Width) (from : Operand) (n : ℕ)
      → carried plain_operations acc width (frame d before memory) before memory from ≡ Ok n → Loads width from
  unfolding carried
  carried_loads width (InRegister register) n is = tt
  carried_loads width (InMemory operand) n is = (
    n,
    subst (λ (size : ℕ). load_of plain_operations acc memory (place_of operand) size ≡ Ok n) (sizes width)
        (loaded_at (size_of width) operand n is),
  )

  weighed_ok : (width : Width) (r : Result ℕ Refusal) (other : Result ℕ Cause) (parts : ℕ × ℕ)
      → weighed plain_operations acc width before.place r other ≡ Ok parts → (n : ℕ) × (r ≡ Ok n)
  weighed_ok width (Ok n) other parts is = (n, refl)
  weighed_ok width (Err why) other parts is = absurd cc

  pub taken_loads : (width : Width) (operand : Operand) (other : Result ℕ Cause) (t : Taken)
      → taken plain_operations acc width (frame d before memory) before memory operand other ≡ Ok t → Loads width
      operand
  unfolding taken taken_at
  taken_loads width (InRegister register) other t is = tt
  taken_loads width (InMemory operand) other t is =
      let at = sym (ap (λ r. taken_at plain_operations acc width before.place memory r other) (addressed operand)) ∙
      is in
      let parts = ok_first (weighed plain_operations acc width before.place
      (load_of plain_operations acc memory (place_of operand) (size_of width)) other)
      (λ parts. Ok (record { slot = Place (place_of operand); number = parts.0; other = parts.1 })) t at in
      let loaded = weighed_ok width (load_of plain_operations acc memory (place_of operand) (size_of width)) other
      parts.0 parts.1 in (
        loaded.0,
        subst (λ (size : ℕ). load_of plain_operations acc memory (place_of operand) size ≡ Ok loaded.0)
            (sizes width) loaded.1,
      )

  -- ** what is left

  abbrev pub state_at : ℕ → Registers ℕ → Flags Bool → State ℕ Bool
  state_at place registers flags =
      record { registers = registers; flags = flags; place = place % 2 ^ 64; thread_pointer = before.thread_pointer }

  pub left_at : (place : ℕ) (registers : Registers ℕ) (flags : Flags Bool)
      → IsLeftAt d before memory (pos place) registers flags (state_at place registers flags)
  left_at place registers flags =
      record { registers_are = refl; flags_are = refl; place_is = pos_cut Quad place place 0 0 refl; thread = refl }

  -- a result for an operand in memory is stored
  abbrev pub Stores : Width → Operand → ℕ → Type 0
  Stores width (InRegister register) number = Unit {0}
  Stores width (InMemory operand) number =
      (m : Numbers) × (store_of plain_operations acc memory (place_of operand) (bytes width) number ≡ Ok m)

  pub record Put (width : Width) (operand : Operand) (number : ℕ) (flags : Flags Bool) : Type 0 where
    pub after : State ℕ Bool
    pub memory' : Numbers
    pub puts : Puts d before memory width operand number flags after memory'
    pub flags_are : flags ≡ after.flags

  pub put_found : (width : Width) (operand : Operand) (number : ℕ) (flags : Flags Bool) → Stores width operand number
      → Put width operand number flags
  put_found width (InRegister to) number flags stores = record {
    after = state_at (before.place + d.len) (with_register before.registers to number) flags;
    memory' = memory;
    puts = (left_at (before.place + d.len) (with_register before.registers to number) flags, refl);
    flags_are = refl;
  }
  put_found width (InMemory to) number flags stores = record {
    after = state_at (before.place + d.len) before.registers flags;
    memory' = stores.0;
    puts = (
      left_at (before.place + d.len) before.registers flags,
      record {
        place = place_of to;
        address = at_address to;
        stored = stores.1;
      },
    );
    flags_are = refl;
  }

  pub stored_ok : (size : ℕ) (to : Memory) (word : ℕ) (y : After ℕ Bool Numbers)
      → stored plain_operations acc size (frame d before memory) before memory to word ≡ Ok y
      → (m : Numbers) × (store_of plain_operations acc memory (place_of to) size word ≡ Ok m)
  unfolding stored
  stored_ok size to word y is =
      let at = then_is (clean before.place (address_of plain_operations (frame d before memory) before to))
      (λ place. there before.place (store_of plain_operations acc memory place size word)
      >>= λ m. done (at_place before (plus before.place d.len)) m) (place_of to) y
      (ap (clean before.place) (addressed to)) is in
      let found = ok_first (there before.place (store_of plain_operations acc memory (place_of to) size word))
      (λ m. done (at_place before (plus before.place d.len)) m) y at in
      (found.0, there_ok before.place (store_of plain_operations acc memory (place_of to) size word) found.0 found.1)

  pub finish_stores : (width : Width) (to : Operand) (slot : Slot) (effect : Effect) (y : After ℕ Bool Numbers)
      → IsSlot d before memory to slot → effect.number < words width
      → finished plain_operations acc width slot effect (frame d before memory) before memory ≡ Ok y
      → Stores width to effect.number
  unfolding finished put plain_operations
  finish_stores width (InRegister to) slot effect y is below at = tt
  finish_stores width (InMemory to) slot effect y is below at =
      let here = sym (ap (λ s. finished plain_operations acc width s effect (frame d before memory) before memory) is.2)
      ∙ at in
      let store = store_of plain_operations acc memory is.0 (size_of width) (effect.number % 2 ^ 64) in
      let first = ok_first (there before.place store >>= λ m. Ok (left before m))
      (λ it. Ok (left (settled plain_operations effect.changes (frame d before memory) it.state) it.memory)) y here in
      let second = ok_first (there before.place store) (λ m. Ok (left before m)) first.0 first.1 in
      let place = one_address d before memory to is.0 (place_of to) is.1 (at_address to) in (
        second.0,
        sym (λ i. store_of plain_operations acc memory (place i) (sizes width i) (whole width effect.number below i))
            ∙ there_ok before.place store second.0 second.1,
      )

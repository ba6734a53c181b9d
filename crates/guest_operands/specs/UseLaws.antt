-- What an instruction leaves as it was.
use Rattle.std.specs.Prelude.{◌≡◌, Result, Ok, Err}
use Rattle.guest_operands.specs.declared.stop.Stop.{Stop}
use Rattle.guest_operands.specs.declared.state.State.{State}
use Rattle.guest_operands.specs.Access.{Accesses}
use Rattle.guest_operands.specs.Ranges.{AddressSpace}
use Rattle.guest_operands.specs.RangeLaws.{range_accesses}
use Rattle.guest_arithmetic.specs.Values.{Operations}
use Rattle.guest_operands.specs.Use.{After, left}

-- the call returned and left what is defined; a stop changes nothing
abbrev pub Leaves : {W F M : Type 0} → Result (Unit {0}) Stop → After W F M → After W F M → Result (After W F M) Stop
    → Type 0
Leaves (Ok done) old new next = next ≡ Ok new
Leaves (Err stop) old new next = (next ≡ Err stop) × (new ≡ old)

-- the same for a step over a memory of ranges
abbrev pub Does : {W F B : Type 0} → Operations W F B → Result (Unit {0}) Stop → State W F → AddressSpace B → State W F
    → AddressSpace B
    → (Operations W F B → Accesses (AddressSpace B) B → State W F → AddressSpace B
    → Result (After W F (AddressSpace B)) Stop) → Type 0
Does ops result old memory new memory' step =
    Leaves result (left old memory) (left new memory') (step ops (range_accesses ops) old memory)

-- the same for a memory alone
abbrev pub LeavesMemory : {M : Type 0} → Result (Unit {0}) Stop → M → M → Result M Stop → Type 0
LeavesMemory (Ok done) old new next = next ≡ Ok new
LeavesMemory (Err stop) old new next = (next ≡ Err stop) × (new ≡ old)

-- The parts of an instruction besides its operation.
use Rattle.std.specs.Prelude.{ℕ, Bool, Option, Some, None, if◌then◌else◌}
use Rattle.amd64_subset.specs.declared.instr.Decoded.{Decoded}
use Rattle.guest_operands.specs.declared.frame.Frame.{Frame}
use Rattle.guest_operands.specs.Use.{plus}

-- an offset field that begins in an instruction
abbrev pub field_at : (ℕ → Bool) → ℕ → Option ℕ → Option ℕ
field_at is_field here None = None
field_at is_field here (Some within) = if is_field (plus here within) then Some (plus here within) else None

-- the frame of an instruction that was decoded at a place
unfoldable pub frame_of : (ℕ → Bool) → ℕ → Decoded → Frame
frame_of is_field here it = record {
  next = plus here it.len;
  displacement = it.instr.displacement;
  immediate = it.instr.immediate;
  displacement_field = field_at is_field here it.disp;
  immediate_field = field_at is_field here it.imm;
}

-- The law fixes the cause of a step: one over wrong steps would make it the same, and here it is not.
use Rattle.std.proofs.Common.{◌≡◌, ℕ, Bool, true, false, [], ◌∷◌, None, refl, ap}
use Rattle.address_map.specs.Map.{owner_at}
use Rattle.amd64_subset.specs.Beginning.{begins_of}
use Rattle.amd64_subset.specs.Decoding.{end_branch_at, escaped_at, row_at, operated_at, body_at, instruction_at}
use Rattle.amd64_subset.specs.Decoding.{decoded}
use Rattle.amd64_subset.specs.Meaning.{numbered_body, operation_of, operand_body}
use Rattle.amd64_subset.specs.Number.{signed_of}
use Rattle.amd64_subset.specs.Prefix.{rex_at, prefixes_at}
use Rattle.amd64_subset.specs.Reading.{numbers_at}
use Rattle.amd64_subset.specs.Register.{register_of as named_register, number_of}
use Rattle.amd64_subset.specs.Row.{fixed_row_of, row_of, escaped_row_of, arithmetic_of, group_action, takes}
use Rattle.amd64_subset.specs.Selectors.{allowed, displacement_size, memory_in as encoded_memory, sib_at, selectors_at}
use Rattle.guest_arithmetic.specs.declared.cause.Cause.TheVariants as cause
use Rattle.guest_arithmetic.specs.Arithmetic.{compute_effect, logic_effect}
use Rattle.guest_arithmetic.specs.Flags.{with_changes}
use Rattle.guest_operands.specs.Access.{fetch_of}
use Rattle.guest_operands.specs.Frame.{frame_of}
use Rattle.guest_operands.specs.Operand.{number_at, put, taken}
use Rattle.guest_operands.specs.Ranges.{Range}
use Rattle.guest_operands.specs.State.{register_of, start_of, with_register}
use Rattle.guest_operands.specs.Use.{left}
use Rattle.guest_machine.specs.Run.{Ends, Goes, Looks, Next}
use Rattle.guest_machine.specs.Step.{act, compute_in, compute_of, concluded, finished, is_cleared}
use Rattle.guest_machine.specs.Touch.{touched, touches_of}
use Rattle.job_meaning.specs.declared.values.Byte.{Byte}
use Rattle.job_meaning.specs.declared.values.Byte.TheVariants.{Value}
use Rattle.job_meaning.specs.declared.values.Word.TheVariants.{Number, Undefined}
use Rattle.job_meaning.specs.Marked.{marked_operations}
use Rattle.job_meaning.specs.Reading.{completed}
use Rattle.module_table.specs.Past.{start, past}
use Rattle.thread_blocks.specs.Instances.{fixed_at, instances_in}
use Rattle.thread_blocks.specs.Spaces.{space_accesses}
use Rattle.whole_meaning.specs.Fields.{marked_frame, memory_in, read_in}
use Rattle.whole_meaning.specs.Reading.{hindrance, marked_step, plain_step, reaches_linker}
use Rattle.whole_meaning.specs.Running.{meaning as meaning_of}
use Rattle.whole_meaning.specs.Threads.{Meant, meant_accesses, meant_steps, ops}
use Rattle.step_laws.specs.Example.{meaning}
use Rattle.cause_laws.specs.Laws.{CausesAreAnswered}
use Rattle.refuted_definitions.specs.Causes.{CausesAreRefuted, CausesBy, is_cleared_by_sub, steps_by}

-- two bytes of code, `xor %ebx, %ebx`, at an address
abbrev code : ℕ → Range Byte
code place = record {
  start = place;
  bytes = Value 0x31 ∷ Value 0xdb ∷ [];
  readable = false;
  writable = false;
  runnable = true;
}

-- a thread there, where nothing is known of %rbx
unfoldable held : ℕ → Meant
held place =
    let s = start_of ops place 0 (Number 1) (Number 2) (Number 3) in
    record {
      after = left (record s { registers = record s.registers { rbx = Undefined } })
          (record { seen = []; stack = []; own = code place ∷ [] });
      owners = [];
      asked = None;
    }

abbrev goes : Next Meant → Bool
goes (Goes next) = true
goes (Ends stop) = false
goes (Looks next) = false

no_use : CausesAreAnswered → CausesBy (steps_by is_cleared_by_sub true) → ⊥
unfolding meaning held start_of marked_operations meant_accesses space_accesses fetch_of fixed_at instances_in start
    past owner_at begins_of end_branch_at escaped_at row_at operated_at body_at instruction_at decoded numbered_body
    operation_of operand_body signed_of rex_at prefixes_at numbers_at named_register number_of fixed_row_of row_of
    escaped_row_of arithmetic_of group_action takes allowed displacement_size encoded_memory sib_at selectors_at
    compute_effect logic_effect with_changes frame_of number_at put taken register_of with_register act compute_in
    compute_of concluded finished is_cleared touched touches_of completed marked_frame memory_in read_in hindrance
    marked_step plain_step reaches_linker meaning_of meant_steps
no_use law wrong =
    let row = ((wrong meaning 1 (held 0x400000) true refl).first cause.Undefined 0x400000 refl).1 in
    let e : true ≡ false = ap goes ((law meaning 1 (held 0x400000) true refl).answered cause.Undefined row) in cc

no_room : CausesAreAnswered → CausesBy (steps_by is_cleared false) → ⊥
unfolding meaning held start_of marked_operations meant_accesses space_accesses fetch_of fixed_at instances_in start
    past owner_at begins_of end_branch_at escaped_at row_at operated_at body_at instruction_at decoded numbered_body
    operation_of operand_body signed_of rex_at prefixes_at numbers_at named_register number_of fixed_row_of row_of
    escaped_row_of arithmetic_of group_action takes allowed displacement_size encoded_memory sib_at selectors_at
    compute_effect logic_effect with_changes frame_of number_at put taken register_of with_register act compute_in
    compute_of concluded finished is_cleared touched touches_of completed marked_frame memory_in read_in hindrance
    marked_step plain_step reaches_linker meaning_of meant_steps
no_room law wrong =
    let row = ((law meaning 1 (held 0x1000) true refl).first cause.Linker 0x1000 refl).1 in
    let e : true ≡ false = ap goes ((wrong meaning 1 (held 0x1000) true refl).answered cause.Linker row) in cc

pub causes_refuted : CausesAreAnswered → CausesAreRefuted
causes_refuted law = record {
  xor_uses_its_register = no_use law;
  linkers_code_may_be_run = no_room law;
}

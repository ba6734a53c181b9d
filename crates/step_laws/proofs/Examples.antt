-- The example's step is plain.
use Rattle.std.proofs.Common.{◌≡◌, ℕ, false, [], ◌∷◌, Some, None, inl, refl}
use Rattle.std.proofs.lemmas.List.Elements.{All-cons, All-nil}
use Rattle.amd64_words.specs.declared.register.Register.{Register}
use Rattle.amd64_words.specs.declared.register.Register.TheVariants.{Rax, Rcx, Rdx, Rbx, Rsp, Rbp, Rsi, Rdi, R8, R9}
use Rattle.amd64_words.specs.declared.register.Register.TheVariants.{R10, R11, R12, R13, R14, R15}
use Rattle.guest_arithmetic.specs.Plain.{plain_operations}
use Rattle.guest_operands.specs.Access.{fetch_of}
use Rattle.guest_operands.specs.State.{register_of, start_of}
use Rattle.address_map.specs.Map.{owner_at}
use Rattle.amd64_subset.specs.declared.instr.Arithmetic.TheVariants.{Xor}
use Rattle.amd64_subset.specs.declared.instr.Decoded.{Decoded}
use Rattle.amd64_subset.specs.declared.instr.Operation.TheVariants.{Compute}
use Rattle.amd64_subset.specs.declared.instr.Width.TheVariants.{Long}
use Rattle.amd64_subset.specs.declared.operand.Operand.TheVariants.{Register as InRegister}
use Rattle.amd64_subset.specs.declared.operand.Operands.TheVariants.{IntoRegister}
use Rattle.amd64_subset.specs.Beginning.{begins_of}
use Rattle.amd64_subset.specs.Decoding.{end_branch_at, escaped_at, row_at, operated_at, body_at, instruction_at}
use Rattle.amd64_subset.specs.Decoding.{decoded}
use Rattle.amd64_subset.specs.Meaning.{numbered_body, operation_of, operand_body}
use Rattle.amd64_subset.specs.Number.{signed_of}
use Rattle.amd64_subset.specs.Prefix.{rex_at, prefixes_at}
use Rattle.amd64_subset.specs.Reading.{numbers_at}
use Rattle.amd64_subset.specs.Register.{register_of as named_register, number_of}
use Rattle.amd64_subset.specs.Row.{fixed_row_of, row_of, escaped_row_of, arithmetic_of, group_action, takes}
use Rattle.amd64_subset.specs.Selectors.{allowed, displacement_size, memory_in as encoded_memory, sib_at, selectors_at}
use Rattle.module_table.specs.Past.{start, past}
use Rattle.thread_blocks.specs.Instances.{fixed_at, instances_in}
use Rattle.job_meaning.specs.Reading.{place_at}
use Rattle.step_laws.specs.Reads.{bytes_read, bytes_written, flags_read, registers_read}
use Rattle.step_laws.specs.Steps.{fetched}
use Rattle.job_meaning.specs.Marked.{marked_operations}
use Rattle.thread_blocks.specs.Spaces.{space_accesses}
use Rattle.whole_meaning.specs.declared.marks.Mark.TheVariants.{Usual}
use Rattle.whole_meaning.specs.Threads.{meant_accesses, meant_mark, meant_shut, sequence_at}
use Rattle.step_laws.specs.Example.{ExampleIsPlain, code, held, machine, meaning, state}
use Rattle.step_laws.specs.Plain.{HasNumber, HasNumbers, IsNumber, IsPlain, ReadsNumbers}

pub same_numbers : HasNumbers held.after.state machine
unfolding held state machine start_of register_of marked_operations plain_operations
same_numbers = record {
  register = each;
  zero = refl;
  sign = refl;
  carry = refl;
  overflow = refl;
  place = refl;
  thread_pointer = refl;
}
  where
    each : (r : Register) → HasNumber (register_of held.after.state.registers r) (register_of machine.registers r)
    each Rbx = tt
    each Rax = refl
    each Rcx = refl
    each Rdx = refl
    each Rsp = refl
    each Rbp = refl
    each Rsi = refl
    each Rdi = refl
    each R8 = refl
    each R9 = refl
    each R10 = refl
    each R11 = refl
    each R12 = refl
    each R13 = refl
    each R14 = refl
    each R15 = refl

-- the instruction
pub instruction : Decoded
instruction = record {
  instr = record { operation = Compute Xor Long (IntoRegister Rax (InRegister Rcx)); displacement = 0; immediate = 0 };
  len = 2;
  disp = None;
  imm = None;
}

pub is_spelled : (decoded (0x31 ∷ 0xc8 ∷ []) ≡ Some instruction) × (begins_of (0x31 ∷ 0xc8 ∷ []) ≡ false)
unfolding instruction begins_of end_branch_at escaped_at row_at operated_at body_at instruction_at decoded numbered_body
    operation_of operand_body signed_of rex_at prefixes_at numbers_at named_register number_of fixed_row_of row_of
    escaped_row_of arithmetic_of group_action takes allowed displacement_size encoded_memory sib_at selectors_at
is_spelled = (refl, refl)

pub is_fetched : fetched meaning 1 held ≡ 0x31 ∷ 0xc8 ∷ []
unfolding meaning code state held start_of marked_operations meant_accesses space_accesses fetch_of fixed_at instances_in
    start past
is_fetched = refl

pub no_sequence : sequence_at meaning 1 held.after.memory.seen held.after.state.place ≡ None
unfolding meaning held state start_of owner_at instances_in start past
no_sequence = refl

pub all_usual : (k : ℕ) → meant_mark meaning 1 held.after.memory (place_at held.after.state.place k) ≡ Usual
unfolding meaning held state start_of instances_in start past
all_usual k = refl

pub open_there : meant_shut meaning 1 held.after.memory held.after.state.place ≡ false
unfolding meaning held state start_of instances_in start past
open_there = refl

numbers : ReadsNumbers (meant_accesses meaning 1) held.after.memory held.after.state machine instruction
unfolding held state start_of register_of marked_operations registers_read flags_read bytes_read instruction number_of
numbers = record {
  registers =
      All-cons (λ r. IsNumber (register_of held.after.state.registers r)) Rax (Rcx ∷ []) (tt {0})
      (All-cons (λ r. IsNumber (register_of held.after.state.registers r)) Rcx [] (tt {0}) (All-nil _));
  flags = All-nil _;
  bytes = All-nil _;
}

pub xor_is_plain : IsPlain meaning 1 held machine
unfolding instruction bytes_read bytes_written
xor_is_plain = record {
  starts = no_sequence;
  whole = record { size = 2; usual = λ k low. all_usual k; decides = inl (rw is_fetched is_spelled.1) };
  reads = rw (is_fetched, is_spelled.0) numbers;
  outside = open_there;
  apart = rw (is_fetched, is_spelled.0) refl;
}

pub is_plain : ExampleIsPlain
is_plain = (same_numbers, xor_is_plain)

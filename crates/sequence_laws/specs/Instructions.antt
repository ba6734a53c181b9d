-- The instructions of each sequence ("ELF Handling For Thread-Local Storage", sections 4.1 and 5; psABI, "Thread-Local
-- Storage"): those that a compiler wrote, by form, and those that replace them, by form and choice.
use Rattle.std.specs.Prelude.{ℕ, ◌%◌, ◌==◌, true, false, List, [], ◌∷◌, Some, None, if◌then◌else◌}
use Rattle.amd64_words.specs.declared.register.Register.{Register}
use Rattle.amd64_words.specs.declared.register.Register.TheVariants.{Rax, Rdi}
use Rattle.amd64_subset.specs.declared.operand.Base.TheVariants as base
use Rattle.amd64_subset.specs.declared.operand.Memory.{Memory}
use Rattle.amd64_subset.specs.declared.operand.Operand.TheVariants as operand
use Rattle.amd64_subset.specs.declared.operand.Operands.TheVariants.{IntoRegister, Immediate}
use Rattle.amd64_subset.specs.declared.instr.Arithmetic.TheVariants.{Add}
use Rattle.amd64_subset.specs.declared.instr.Width.TheVariants.{Quad}
use Rattle.amd64_subset.specs.declared.instr.Target.TheVariants.{Relative, Indirect}
use Rattle.amd64_subset.specs.declared.instr.Operation.{Operation}
use Rattle.amd64_subset.specs.declared.instr.Operation.TheVariants.{Move, LoadAddress, Compute, Call, Nop}
use Rattle.amd64_subset.specs.declared.instr.Decoded.{Decoded}
use Rattle.amd64_subset.specs.Register.{register_of}
use Rattle.sequence_forms.specs.declared.forms.Form.{Form}
use Rattle.sequence_forms.specs.declared.forms.Form.TheVariants.{Gd, Ld, IeMov, IeAdd, GdInd, LdInd, DescLea, DescCall}
use Rattle.relax_sites.specs.declared.choices.Choice.{Choice}
use Rattle.relax_sites.specs.declared.choices.Choice.TheVariants.{GdLe, GdIe, LdLe, IeLe, DescLe, DescIe}

-- ** operands in memory

-- %fs:d
abbrev pub of_thread : Memory
of_thread = record { from_thread_pointer = true; base = base.Absolute; index = None }

-- d(%rip)
abbrev pub of_next : Memory
of_next = record { from_thread_pointer = false; base = base.NextInstruction; index = None }

-- d(%r)
abbrev pub of_register : Register → Memory
of_register r = record { from_thread_pointer = false; base = base.Register r; index = None }

-- ** instructions with a number of bytes

-- an instruction with neither a displacement nor an immediate
abbrev pub plain : ℕ → Operation → Decoded
plain len operation = record {
  instr = record { operation = operation; displacement = 0; immediate = 0 };
  len = len;
  disp = None;
  imm = None;
}

-- an instruction with a displacement in a field
abbrev pub displaced : ℕ → ℕ → Operation → ℕ → Decoded
displaced len at operation number = record {
  instr = record { operation = operation; displacement = number; immediate = 0 };
  len = len;
  disp = Some at;
  imm = None;
}

-- an instruction with an immediate in a field
abbrev pub immediate : ℕ → ℕ → Operation → ℕ → Decoded
immediate len at operation number = record {
  instr = record { operation = operation; displacement = 0; immediate = number };
  len = len;
  disp = None;
  imm = Some at;
}

-- mov d, %r
abbrev pub load : Register → Memory → Operation
load r from = Move Quad (IntoRegister r (operand.InMemory from))

-- add d, %r
abbrev pub add : Register → Memory → Operation
add r from = Compute Add Quad (IntoRegister r (operand.InMemory from))

-- mov $i, %r
abbrev pub set : Register → Operation
set r = Move Quad (Immediate (operand.Register r))

-- add $i, %r
abbrev pub add_number : Register → Operation
add_number r = Compute Add Quad (Immediate (operand.Register r))

-- call *d
abbrev pub call_through : Memory → Operation
call_through from = Call (Indirect (operand.InMemory from))

-- ** the sequences

-- the instructions of a form, with its register and the numbers in its fields
abbrev pub kept_instructions : Form → ℕ → ℕ → ℕ → List Decoded
-- lea first(%rip), %rdi; call second
kept_instructions Gd reg first second =
    displaced 8 4 (LoadAddress Quad Rdi of_next) first ∷ plain 8 (Call (Relative second)) ∷ []
kept_instructions Ld reg first second =
    displaced 7 3 (LoadAddress Quad Rdi of_next) first ∷ plain 5 (Call (Relative second)) ∷ []
-- lea first(%rip), %rdi; call *second(%rip)
kept_instructions GdInd reg first second =
    displaced 8 4 (LoadAddress Quad Rdi of_next) first ∷ displaced 8 4 (call_through of_next) second ∷ []
kept_instructions LdInd reg first second =
    displaced 7 3 (LoadAddress Quad Rdi of_next) first ∷ displaced 6 2 (call_through of_next) second ∷ []
-- mov first(%rip), %r
kept_instructions IeMov reg first second = displaced 7 3 (load (register_of reg) of_next) first ∷ []
-- add first(%rip), %r
kept_instructions IeAdd reg first second = displaced 7 3 (add (register_of reg) of_next) first ∷ []
-- lea first(%rip), %rax
kept_instructions DescLea reg first second = displaced 7 3 (LoadAddress Quad Rax of_next) first ∷ []
-- call *(%rax)
kept_instructions DescCall reg first second = plain 2 (call_through (of_register Rax)) ∷ []

-- lea x(%r), %r, or for %rsp and %r12 add $x, %r
abbrev pub added : ℕ → ℕ → Decoded
added reg x =
    if reg % 8 == 4
    then immediate 7 3 (add_number (register_of reg)) x
    else displaced 7 3 (LoadAddress Quad (register_of reg) (of_register (register_of reg))) x

-- the instructions that replace a form by a choice, with its register and the number in their field
abbrev pub new_instructions : Form → Choice → ℕ → ℕ → List Decoded
-- mov %fs:0, %rax; lea x(%rax), %rax
new_instructions Gd GdLe reg x =
    displaced 9 5 (load Rax of_thread) 0 ∷ displaced 7 3 (LoadAddress Quad Rax (of_register Rax)) x ∷ []
new_instructions GdInd GdLe reg x =
    displaced 9 5 (load Rax of_thread) 0 ∷ displaced 7 3 (LoadAddress Quad Rax (of_register Rax)) x ∷ []
-- mov %fs:0, %rax; add x(%rip), %rax
new_instructions Gd GdIe reg x = displaced 9 5 (load Rax of_thread) 0 ∷ displaced 7 3 (add Rax of_next) x ∷ []
new_instructions GdInd GdIe reg x = displaced 9 5 (load Rax of_thread) 0 ∷ displaced 7 3 (add Rax of_next) x ∷ []
-- mov %fs:0, %rax
new_instructions Ld LdLe reg x = displaced 12 8 (load Rax of_thread) 0 ∷ []
new_instructions LdInd LdLe reg x = displaced 13 9 (load Rax of_thread) 0 ∷ []
-- mov $x, %r
new_instructions IeMov IeLe reg x = immediate 7 3 (set (register_of reg)) x ∷ []
new_instructions IeAdd IeLe reg x = added reg x ∷ []
-- mov $x, %rax
new_instructions DescLea DescLe reg x = immediate 7 3 (set Rax) x ∷ []
-- mov x(%rip), %rax
new_instructions DescLea DescIe reg x = displaced 7 3 (load Rax of_next) x ∷ []
-- nop
new_instructions DescCall DescLe reg x = plain 2 (Nop None) ∷ []
new_instructions DescCall DescIe reg x = plain 2 (Nop None) ∷ []
new_instructions form choice reg x = []

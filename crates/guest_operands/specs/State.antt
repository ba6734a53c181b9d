-- Registers by name, and a machine at its start.
use Rattle.std.specs.Prelude.{ℕ, false}
use Rattle.amd64_words.specs.declared.register.Register.{Register}
use Rattle.amd64_words.specs.declared.register.Register.TheVariants.{Rax, Rcx, Rdx, Rbx, Rsp, Rbp, Rsi, Rdi, R8, R9}
use Rattle.amd64_words.specs.declared.register.Register.TheVariants.{R10, R11, R12, R13, R14, R15}
use Rattle.guest_operands.specs.declared.state.Registers.{Registers}
use Rattle.guest_operands.specs.declared.state.State.{State}
use Rattle.guest_arithmetic.specs.Values.{Operations}

unfoldable pub register_of : {W : Type 0} → Registers W → Register → W
register_of registers Rax = registers.rax
register_of registers Rcx = registers.rcx
register_of registers Rdx = registers.rdx
register_of registers Rbx = registers.rbx
register_of registers Rsp = registers.rsp
register_of registers Rbp = registers.rbp
register_of registers Rsi = registers.rsi
register_of registers Rdi = registers.rdi
register_of registers R8 = registers.r8
register_of registers R9 = registers.r9
register_of registers R10 = registers.r10
register_of registers R11 = registers.r11
register_of registers R12 = registers.r12
register_of registers R13 = registers.r13
register_of registers R14 = registers.r14
register_of registers R15 = registers.r15

unfoldable pub with_register : {W : Type 0} → Registers W → Register → W → Registers W
with_register registers Rax word = record registers { rax = word }
with_register registers Rcx word = record registers { rcx = word }
with_register registers Rdx word = record registers { rdx = word }
with_register registers Rbx word = record registers { rbx = word }
with_register registers Rsp word = record registers { rsp = word }
with_register registers Rbp word = record registers { rbp = word }
with_register registers Rsi word = record registers { rsi = word }
with_register registers Rdi word = record registers { rdi = word }
with_register registers R8 word = record registers { r8 = word }
with_register registers R9 word = record registers { r9 = word }
with_register registers R10 word = record registers { r10 = word }
with_register registers R11 word = record registers { r11 = word }
with_register registers R12 word = record registers { r12 = word }
with_register registers R13 word = record registers { r13 = word }
with_register registers R14 word = record registers { r14 = word }
with_register registers R15 word = record registers { r15 = word }

abbrev pub with_word : {W F : Type 0} → State W F → Register → W → State W F
with_word state register word = record state { registers = with_register state.registers register word }

abbrev pub with_stack : {W F : Type 0} → State W F → W → State W F
with_stack state word = record state { registers = record state.registers { rsp = word } }

abbrev pub at_place : {W F : Type 0} → State W F → ℕ → State W F
at_place state place = record state { place = place }

-- every register is 0 except %rsp and the three arguments of a call (psABI, section 3.2.3)
unfoldable pub start_of : {W F B : Type 0} → Operations W F B → ℕ → ℕ → W → W → W → State W F
start_of ops place stack a b c =
    let zero_word = ops.word 0 in
    let clear = ops.flag false in
    record {
      registers = record {
        rax = zero_word;
        rcx = zero_word;
        rdx = c;
        rbx = zero_word;
        rsp = ops.word stack;
        rbp = zero_word;
        rsi = b;
        rdi = a;
        r8 = zero_word;
        r9 = zero_word;
        r10 = zero_word;
        r11 = zero_word;
        r12 = zero_word;
        r13 = zero_word;
        r14 = zero_word;
        r15 = zero_word;
      };
      flags = record { zero = clear; sign = clear; carry = clear; overflow = clear };
      place = place;
      thread_pointer = 0;
    }

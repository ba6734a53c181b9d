-- Registers by their numbers (Intel's manual, volume 2, table 2-2).
use Rattle.std.specs.Prelude.{ℕ, ◌+◌, Bool, ◌==◌, if◌then◌else◌}
use denote.Enum.Bare.{sameb}
use Rattle.amd64_words.specs.contracts.register.Register.{the_type}
use Rattle.amd64_words.specs.declared.register.Register.{Register}
use Rattle.amd64_words.specs.declared.register.Register.TheVariants.{Rax, Rcx, Rdx, Rbx, Rsp, Rbp, Rsi, Rdi, R8, R9}
use Rattle.amd64_words.specs.declared.register.Register.TheVariants.{R10, R11, R12, R13, R14, R15}

unfoldable pub register_of : ℕ → Register
register_of number =
    if number == 0 then Rax
    else if number == 1 then Rcx
    else if number == 2 then Rdx
    else if number == 3 then Rbx
    else if number == 4 then Rsp
    else if number == 5 then Rbp
    else if number == 6 then Rsi
    else if number == 7 then Rdi
    else if number == 8 then R8
    else if number == 9 then R9
    else if number == 10 then R10
    else if number == 11 then R11
    else if number == 12 then R12
    else if number == 13 then R13
    else if number == 14 then R14
    else R15

unfoldable pub number_of : Register → ℕ
number_of Rax = 0
number_of Rcx = 1
number_of Rdx = 2
number_of Rbx = 3
number_of Rsp = 4
number_of Rbp = 5
number_of Rsi = 6
number_of Rdi = 7
number_of R8 = 8
number_of R9 = 9
number_of R10 = 10
number_of R11 = 11
number_of R12 = 12
number_of R13 = 13
number_of R14 = 14
number_of R15 = 15

-- whether two registers are the same
abbrev pub are_same : Register → Register → Bool
are_same = sameb the_type

-- a register by the three bits in the instruction's own bytes and the fourth in REX
abbrev pub extended : ℕ → Bool → Register
extended low high = register_of (low + (if high then 8 else 0))

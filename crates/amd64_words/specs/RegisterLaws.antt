-- Registers are told apart by their numbers.
use denote.Enum.Declared.{tag_of}
use Rattle.std.proofs.Common.{◌≡◌, ◌==◌, refl}
use Rattle.amd64_words.specs.contracts.register.Register.{the_type}
use Rattle.amd64_words.specs.declared.register.Register.{Register}
use Rattle.amd64_words.specs.declared.register.Register.TheVariants.{Rax, Rcx, Rdx, Rbx, Rsp, Rbp, Rsi, Rdi, R8, R9}
use Rattle.amd64_words.specs.declared.register.Register.TheVariants.{R10, R11, R12, R13, R14, R15}
use Rattle.amd64_words.specs.Register.{are_same, number_of}

-- a register's number is its place in the list
number_is : (register : Register) → tag_of the_type register ≡ number_of register
unfolding number_of
number_is Rax = refl
number_is Rcx = refl
number_is Rdx = refl
number_is Rbx = refl
number_is Rsp = refl
number_is Rbp = refl
number_is Rsi = refl
number_is Rdi = refl
number_is R8 = refl
number_is R9 = refl
number_is R10 = refl
number_is R11 = refl
number_is R12 = refl
number_is R13 = refl
number_is R14 = refl
number_is R15 = refl

pub told_by_number : (p q : Register) → are_same p q ≡ (number_of p == number_of q)
told_by_number p q = rw (number_is p, number_is q) refl

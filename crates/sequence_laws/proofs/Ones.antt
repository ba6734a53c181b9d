-- Each instruction of the sequences, read from its own bytes alone, and then with any bytes behind it.
use Rattle.std.proofs.Common.{◌≡◌, ℕ, ◌+◌, ◌*◌, ◌<◌, ◌≤◌, List, [], ◌∷◌, ◌++◌, length, take, Option, Some, None, refl}
use Rattle.std.proofs.Common.{sym, subst, arith}
use Rattle.std.proofs.lemmas.List.{take_all, drop_at}
use Rattle.amd64_words.specs.declared.register.Register.TheVariants.{Rax, Rdi}
use Rattle.amd64_subset.specs.declared.instr.Width.TheVariants.{Quad}
use Rattle.amd64_subset.specs.declared.instr.Target.TheVariants.{Relative}
use Rattle.amd64_subset.specs.declared.instr.Operation.TheVariants.{LoadAddress, Call, Nop}
use Rattle.amd64_subset.specs.declared.instr.Decoded.{Decoded}
use Rattle.amd64_subset.specs.Decoding.{end_branch_at, escaped_at, row_at, operated_at, body_at, instruction_at}
use Rattle.amd64_subset.specs.Decoding.{decoded}
use Rattle.amd64_subset.specs.Meaning.{numbered_body, operation_of, operand_body}
use Rattle.amd64_subset.specs.Number.{signed_of}
use Rattle.amd64_subset.specs.Prefix.{rex_at, prefixes_at}
use Rattle.amd64_subset.specs.Reading.{numbers_at}
use Rattle.amd64_subset.specs.Register.{register_of, number_of}
use Rattle.amd64_subset.specs.Row.{condition_of, fixed_row_of, row_of, escaped_row_of, arithmetic_of, shift_of}
use Rattle.amd64_subset.specs.Row.{group_action, takes}
use Rattle.amd64_subset.specs.Selectors.{allowed, displacement_size, memory_in, sib_at, selectors_at}
use Rattle.amd64_subset.specs.Spelling.{field_of}
use Rattle.amd64_subset.proofs.FieldLaws.{front_lem}
use Rattle.elf_records.specs.Fields.{splice}
use Rattle.relax_sites.specs.Rows.{mov_bytes, add_bytes}
use Rattle.sequence_laws.specs.Instructions.{of_thread, of_next, of_register, plain, displaced, immediate, load, add}
use Rattle.sequence_laws.specs.Instructions.{set, call_through, added}
use Rattle.sequence_laws.specs.Laws.{AreRead}
use Rattle.sequence_laws.proofs.Shapes.{by_register, by_low_register}

-- bytes that are one instruction
pub record IsOne (bytes : List ℕ) (d : Decoded) : Type 0 where
  pub read : decoded bytes ≡ Some d
  pub len-is : length bytes ≡ d.len

-- what is read is read with more behind it, and the rest comes next
pub one : (bytes rest : List ℕ) (d : Decoded) → IsOne bytes d → AreRead (d ∷ []) rest (bytes ++ rest)
one bytes rest d is =
    let short : length bytes ≤ d.len = omega (arith, is.len-is) in
    let all : take d.len bytes ≡ bytes = take_all d.len bytes short in (
      subst (λ (front : List ℕ). decoded (front ++ rest) ≡ Some d) all (front_lem bytes rest d is.read),
      drop_at bytes rest d.len is.len-is,
    )

pub two : (a b rest : List ℕ) (d e : Decoded) → IsOne a d → IsOne b e → AreRead (d ∷ e ∷ []) rest (a ++ (b ++ rest))
two a b rest d e first second =
    let front = one a (b ++ rest) d first in
    (front.0, subst (AreRead (e ∷ []) rest) (sym front.1) (one b rest e second))

-- what opens where bytes are read
pub reads : List ℕ → Option Decoded
unfolding
    end_branch_at escaped_at row_at operated_at body_at instruction_at decoded numbered_body operation_of operand_body
    signed_of rex_at prefixes_at numbers_at register_of number_of condition_of fixed_row_of row_of escaped_row_of arithmetic_of shift_of group_action
    takes allowed displacement_size memory_in sib_at selectors_at
reads bytes = decoded bytes

-- mov %fs:0, %rax
pub thread_pointer_9 : IsOne (0x64 ∷ 0x48 ∷ 0x8b ∷ 0x04 ∷ 0x25 ∷ 0 ∷ 0 ∷ 0 ∷ 0 ∷ [])
    (displaced 9 5 (load Rax of_thread) 0)
unfolding reads
thread_pointer_9 = record { read = refl; len-is = refl }

pub thread_pointer_12 : IsOne (0x66 ∷ 0x66 ∷ 0x66 ∷ 0x64 ∷ 0x48 ∷ 0x8b ∷ 0x04 ∷ 0x25 ∷ 0 ∷ 0 ∷ 0 ∷ 0 ∷ [])
    (displaced 12 8 (load Rax of_thread) 0)
unfolding reads
thread_pointer_12 = record { read = refl; len-is = refl }

pub thread_pointer_13 : IsOne (0x66 ∷ 0x66 ∷ 0x66 ∷ 0x66 ∷ 0x64 ∷ 0x48 ∷ 0x8b ∷ 0x04 ∷ 0x25 ∷ 0 ∷ 0 ∷ 0 ∷ 0 ∷ [])
    (displaced 13 9 (load Rax of_thread) 0)
unfolding reads
thread_pointer_13 = record { read = refl; len-is = refl }

-- the number in four bytes
abbrev pub number : ℕ → ℕ → ℕ → ℕ → ℕ
number a b c d = field_of (a ∷ b ∷ c ∷ d ∷ [])

-- lea x(%rax), %rax
pub lea_rax : (a b c d : ℕ)
    → IsOne (0x48 ∷ 0x8d ∷ 0x80 ∷ a ∷ b ∷ c ∷ d ∷ [])
    (displaced 7 3 (LoadAddress Quad Rax (of_register Rax)) (number a b c d))
unfolding reads
lea_rax a b c d = record { read = refl; len-is = refl }

-- add x(%rip), %rax
pub add_rax : (a b c d : ℕ)
    → IsOne (0x48 ∷ 0x03 ∷ 0x05 ∷ a ∷ b ∷ c ∷ d ∷ []) (displaced 7 3 (add Rax of_next) (number a b c d))
unfolding reads
add_rax a b c d = record { read = refl; len-is = refl }

-- mov $x, %rax
pub set_rax : (a b c d : ℕ) → IsOne (0x48 ∷ 0xc7 ∷ 0xc0 ∷ a ∷ b ∷ c ∷ d ∷ []) (immediate 7 3 (set Rax) (number a b c d))
unfolding reads
set_rax a b c d = record { read = refl; len-is = refl }

-- mov x(%rip), %rax
pub load_rax : (a b c d : ℕ)
    → IsOne (0x48 ∷ 0x8b ∷ 0x05 ∷ a ∷ b ∷ c ∷ d ∷ []) (displaced 7 3 (load Rax of_next) (number a b c d))
unfolding reads
load_rax a b c d = record { read = refl; len-is = refl }

-- nop
pub nop : IsOne (0x66 ∷ 0x90 ∷ []) (plain 2 (Nop None))
unfolding reads
nop = record { read = refl; len-is = refl }

-- mov $x, %r
abbrev Set : ℕ → ℕ → ℕ → ℕ → ℕ → Type 0
Set a b c d reg = IsOne (splice 3 (a ∷ b ∷ c ∷ d ∷ []) (mov_bytes reg))
    (immediate 7 3 (set (register_of reg)) (number a b c d))

pub set_register : (a b c d reg : ℕ) → reg ≤ 15 → Set a b c d reg
unfolding reads splice
set_register a b c d reg low = by_register (Set a b c d)
    (record { read = refl; len-is = refl }) (record { read = refl; len-is = refl })
    (record { read = refl; len-is = refl }) (record { read = refl; len-is = refl })
    (record { read = refl; len-is = refl }) (record { read = refl; len-is = refl })
    (record { read = refl; len-is = refl }) (record { read = refl; len-is = refl })
    (record { read = refl; len-is = refl }) (record { read = refl; len-is = refl })
    (record { read = refl; len-is = refl }) (record { read = refl; len-is = refl })
    (record { read = refl; len-is = refl }) (record { read = refl; len-is = refl })
    (record { read = refl; len-is = refl }) (record { read = refl; len-is = refl })
    reg low

-- lea x(%r), %r, or add $x, %r
abbrev Added : ℕ → ℕ → ℕ → ℕ → ℕ → Type 0
Added a b c d reg = IsOne (splice 3 (a ∷ b ∷ c ∷ d ∷ []) (add_bytes reg)) (added reg (number a b c d))

pub added_register : (a b c d reg : ℕ) → reg ≤ 15 → Added a b c d reg
unfolding reads splice
added_register a b c d reg low = by_register (Added a b c d)
    (record { read = refl; len-is = refl }) (record { read = refl; len-is = refl })
    (record { read = refl; len-is = refl }) (record { read = refl; len-is = refl })
    (record { read = refl; len-is = refl }) (record { read = refl; len-is = refl })
    (record { read = refl; len-is = refl }) (record { read = refl; len-is = refl })
    (record { read = refl; len-is = refl }) (record { read = refl; len-is = refl })
    (record { read = refl; len-is = refl }) (record { read = refl; len-is = refl })
    (record { read = refl; len-is = refl }) (record { read = refl; len-is = refl })
    (record { read = refl; len-is = refl }) (record { read = refl; len-is = refl })
    reg low

-- ** those that a compiler wrote

-- lea x(%rip), %rdi
pub lea_rdi_8 : (a b c d : ℕ)
    → IsOne (0x66 ∷ 0x48 ∷ 0x8d ∷ 0x3d ∷ a ∷ b ∷ c ∷ d ∷ [])
    (displaced 8 4 (LoadAddress Quad Rdi of_next) (number a b c d))
unfolding reads
lea_rdi_8 a b c d = record { read = refl; len-is = refl }

pub lea_rdi_7 : (a b c d : ℕ)
    → IsOne (0x48 ∷ 0x8d ∷ 0x3d ∷ a ∷ b ∷ c ∷ d ∷ []) (displaced 7 3 (LoadAddress Quad Rdi of_next) (number a b c d))
unfolding reads
lea_rdi_7 a b c d = record { read = refl; len-is = refl }

-- call x
pub call_8 : (a b c d : ℕ)
    → IsOne (0x66 ∷ 0x66 ∷ 0x48 ∷ 0xe8 ∷ a ∷ b ∷ c ∷ d ∷ []) (plain 8 (Call (Relative (number a b c d))))
unfolding reads
call_8 a b c d = record { read = refl; len-is = refl }

pub call_5 : (a b c d : ℕ) → IsOne (0xe8 ∷ a ∷ b ∷ c ∷ d ∷ []) (plain 5 (Call (Relative (number a b c d))))
unfolding reads
call_5 a b c d = record { read = refl; len-is = refl }

-- call *x(%rip)
pub call_through_8 : (a b c d : ℕ)
    → IsOne (0x66 ∷ 0x48 ∷ 0xff ∷ 0x15 ∷ a ∷ b ∷ c ∷ d ∷ []) (displaced 8 4 (call_through of_next) (number a b c d))
unfolding reads
call_through_8 a b c d = record { read = refl; len-is = refl }

pub call_through_6 : (a b c d : ℕ)
    → IsOne (0xff ∷ 0x15 ∷ a ∷ b ∷ c ∷ d ∷ []) (displaced 6 2 (call_through of_next) (number a b c d))
unfolding reads
call_through_6 a b c d = record { read = refl; len-is = refl }

-- lea x(%rip), %rax
pub lea_descriptor : (a b c d : ℕ)
    → IsOne (0x48 ∷ 0x8d ∷ 0x05 ∷ a ∷ b ∷ c ∷ d ∷ []) (displaced 7 3 (LoadAddress Quad Rax of_next) (number a b c d))
unfolding reads
lea_descriptor a b c d = record { read = refl; len-is = refl }

-- call *(%rax)
pub call_descriptor : IsOne (0xff ∷ 0x10 ∷ []) (plain 2 (call_through (of_register Rax)))
unfolding reads
call_descriptor = record { read = refl; len-is = refl }

-- mov x(%rip), %r and add x(%rip), %r of the first eight registers
abbrev LoadedLow : ℕ → ℕ → ℕ → ℕ → ℕ → Type 0
LoadedLow a b c d reg =
    IsOne (0x48 ∷ 0x8b ∷ (5 + 8 * reg) ∷ a ∷ b ∷ c ∷ d ∷ [])
    (displaced 7 3 (load (register_of reg) of_next) (number a b c d))

pub loaded_low : (a b c d reg : ℕ) → reg < 8 → LoadedLow a b c d reg
unfolding reads
loaded_low a b c d reg low = by_low_register (LoadedLow a b c d)
    (record { read = refl; len-is = refl }) (record { read = refl; len-is = refl })
    (record { read = refl; len-is = refl }) (record { read = refl; len-is = refl })
    (record { read = refl; len-is = refl }) (record { read = refl; len-is = refl })
    (record { read = refl; len-is = refl }) (record { read = refl; len-is = refl })
    reg low

abbrev AddedLow : ℕ → ℕ → ℕ → ℕ → ℕ → Type 0
AddedLow a b c d reg = IsOne (0x48 ∷ 0x03 ∷ (5 + 8 * reg) ∷ a ∷ b ∷ c ∷ d ∷ [])
    (displaced 7 3 (add (register_of reg) of_next) (number a b c d))

pub added_low : (a b c d reg : ℕ) → reg < 8 → AddedLow a b c d reg
unfolding reads
added_low a b c d reg low = by_low_register (AddedLow a b c d)
    (record { read = refl; len-is = refl }) (record { read = refl; len-is = refl })
    (record { read = refl; len-is = refl }) (record { read = refl; len-is = refl })
    (record { read = refl; len-is = refl }) (record { read = refl; len-is = refl })
    (record { read = refl; len-is = refl }) (record { read = refl; len-is = refl })
    reg low

-- and of the others
abbrev LoadedHigh : ℕ → ℕ → ℕ → ℕ → ℕ → Type 0
LoadedHigh a b c d reg =
    IsOne (0x4c ∷ 0x8b ∷ (5 + 8 * reg) ∷ a ∷ b ∷ c ∷ d ∷ [])
    (displaced 7 3 (load (register_of (reg + 8)) of_next) (number a b c d))

pub loaded_high : (a b c d reg : ℕ) → reg < 8 → LoadedHigh a b c d reg
unfolding reads
loaded_high a b c d reg low = by_low_register (LoadedHigh a b c d)
    (record { read = refl; len-is = refl }) (record { read = refl; len-is = refl })
    (record { read = refl; len-is = refl }) (record { read = refl; len-is = refl })
    (record { read = refl; len-is = refl }) (record { read = refl; len-is = refl })
    (record { read = refl; len-is = refl }) (record { read = refl; len-is = refl })
    reg low

abbrev AddedHigh : ℕ → ℕ → ℕ → ℕ → ℕ → Type 0
AddedHigh a b c d reg =
    IsOne (0x4c ∷ 0x03 ∷ (5 + 8 * reg) ∷ a ∷ b ∷ c ∷ d ∷ [])
    (displaced 7 3 (add (register_of (reg + 8)) of_next) (number a b c d))

pub added_high : (a b c d reg : ℕ) → reg < 8 → AddedHigh a b c d reg
unfolding reads
added_high a b c d reg low = by_low_register (AddedHigh a b c d)
    (record { read = refl; len-is = refl }) (record { read = refl; len-is = refl })
    (record { read = refl; len-is = refl }) (record { read = refl; len-is = refl })
    (record { read = refl; len-is = refl }) (record { read = refl; len-is = refl })
    (record { read = refl; len-is = refl }) (record { read = refl; len-is = refl })
    reg low

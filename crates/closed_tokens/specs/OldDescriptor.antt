-- A descriptor of a module that is closed and opened again. The objects, as assembled:
--
--   program a: mov u(%rip), %rcx          module f: lea v@tlsdesc(%rip), %rax
--              mov %rcx, u+8(%rip)                  mov %rax, (%rdi)
--              xor %eax, %eax                       call *v@tlscall(%rax)
--              ret                                  ret
--   .data   u: .quad 0, 0                 module g: mov (%rdi), %rax
--                                                   call *v@tlscall(%rax)
--                                                   ret
--                                         .tdata    .long 7
--                                                v: .long 5
--
-- Thread 1 opens the module, which is instance 2, and calls f, which stores a descriptor of v in u and then asks for
-- v. At that look thread 2 closes the module and opens it again, as instance 3. The call can't go on: the instance
-- whose code asks is closed. But its descriptor is still in u, and may be moved: a puts it into the next word. In its
-- place f stores one of instance 3, by which thread 1, and thread 2 in g, get the distance of v from the thread
-- pointer, in the block that each has of instance 3.
--
-- In a job with another last line thread 2 calls the old one. It is also a descriptor of v, but the code is that of
-- instance 3, so the call is unclean. The machine finds nothing at the address of instance 2's table.
use Rattle.std.specs.Prelude.{ℕ, ◌+◌, Bool, true, false, List, [], ◌∷◌, codes}
use Rattle.guest_arithmetic.specs.declared.cause.Cause.TheVariants.{Descriptor}
use Rattle.guest_operands.specs.declared.stop.Stop.TheVariants.{Returned, Address, Unclean}
use Rattle.job_text.specs.declared.thread_lines.Action.TheVariants.{Call, Open, Close, Peek}
use Rattle.job_text.specs.declared.thread_lines.ThreadLine.{ThreadLine}
use Rattle.link_faults.specs.declared.image_kind.ImageKind.TheVariants.{Exe, Late}
use Rattle.link_needs.specs.Linking.{Linking}
use Rattle.sequence_forms.specs.declared.forms.Form.TheVariants.{DescLea, DescCall}
use Rattle.thread_blocks.specs.Turns.{Answered, Said, Stopped}
use Rattle.transcript_text.specs.declared.outcomes.LineFault.TheVariants.{Unloaded}
use Rattle.transcript_text.specs.declared.outcomes.Outcome.TheVariants.{Bytes, Closed, Fault, Opened}
use Rattle.whole_meaning.specs.declared.unclean.UncleanStep.{UncleanStep}
use Rattle.closed_jobs.specs.Worlds.{Says, file, link_of_object}
use Rattle.elf_records.specs.Digits.{bytes_of_digits}

unfoldable pub program_object : List ℕ
unfolding file
program_object = file (
    codes "7f454c4602010100000000000000000001003e0001000000000000000000000000000000000000003001000000000000"
    ∷ codes "00000000400000000000400007000600488b0d0000000048890d0000000031c0c3000000000000000000000000000000"
    ∷ codes "000000000000000000000000000000000000000000000000000000000000000000000000030003000000000000000000"
    ∷ codes "000000000000000001000000000003000000000000000000000000000000000003000000120001000000000000000000"
    ∷ codes "0000000000000000007500610000000003000000000000000200000001000000fcffffffffffffff0a00000000000000"
    ∷ codes "02000000010000000400000000000000002e73796d746162002e737472746162002e7368737472746162002e72656c61"
    ∷ codes "2e74657874002e6461746100000000000000000000000000000000000000000000000000000000000000000000000000"
    ∷ codes "000000000000000000000000000000000000000000000000000000000000000020000000010000000600000000000000"
    ∷ codes "000000000000000040000000000000001100000000000000000000000000000001000000000000000000000000000000"
    ∷ codes "1b0000000400000040000000000000000000000000000000d00000000000000030000000000000000400000001000000"
    ∷ codes "080000000000000018000000000000002600000001000000030000000000000000000000000000005800000000000000"
    ∷ codes "100000000000000000000000000000000800000000000000000000000000000001000000020000000000000000000000"
    ∷ codes "000000000000000068000000000000006000000000000000050000000300000008000000000000001800000000000000"
    ∷ codes "090000000300000000000000000000000000000000000000c80000000000000005000000000000000000000000000000"
    ∷ codes "010000000000000000000000000000001100000003000000000000000000000000000000000000000001000000000000"
    ∷ codes "2c00000000000000000000000000000001000000000000000000000000000000" ∷ [])

unfoldable pub module_object : List ℕ
unfolding file
module_object = file (
    codes "7f454c4602010100000000000000000001003e0001000000000000000000000000000000000000007001000000000000"
    ∷ codes "00000000400000000000400007000600488d0500000000488907ff10c3488b07ff10c300070000000500000000000000"
    ∷ codes "000000000000000000000000000000000000000000000000010000001200010000000000000000000000000000000000"
    ∷ codes "030000001000000000000000000000000000000000000000190000001600030004000000000000000000000000000000"
    ∷ codes "1b000000120001000d0000000000000000000000000000000066005f474c4f42414c5f4f46465345545f5441424c455f"
    ∷ codes "007600670000000003000000000000002200000003000000fcffffffffffffff0a000000000000002300000003000000"
    ∷ codes "0000000000000000100000000000000023000000030000000000000000000000002e73796d746162002e737472746162"
    ∷ codes "002e7368737472746162002e72656c612e74657874002e74646174610000000000000000000000000000000000000000"
    ∷ codes "000000000000000000000000000000000000000000000000000000000000000000000000000000000000000000000000"
    ∷ codes "200000000100000006000000000000000000000000000000400000000000000013000000000000000000000000000000"
    ∷ codes "010000000000000000000000000000001b0000000400000040000000000000000000000000000000f800000000000000"
    ∷ codes "480000000000000004000000010000000800000000000000180000000000000026000000010000000304000000000000"
    ∷ codes "000000000000000054000000000000000800000000000000000000000000000004000000000000000000000000000000"
    ∷ codes "010000000200000000000000000000000000000000000000600000000000000078000000000000000500000001000000"
    ∷ codes "08000000000000001800000000000000090000000300000000000000000000000000000000000000d800000000000000"
    ∷ codes "1d0000000000000000000000000000000100000000000000000000000000000011000000030000000000000000000000"
    ∷ codes "000000000000000040010000000000002d00000000000000000000000000000001000000000000000000000000000000" ∷ [])

unfoldable pub program : Bool → Linking
unfolding program_object
program relax = link_of_object Exe program_object ([] ∷ []) relax []

unfoldable pub late : Bool → Linking
unfolding module_object
late relax = link_of_object Late module_object ([] ∷ []) relax
    (record { section = 1; start = 0; len = 7; form = DescLea; symbol = 3; reg = 0 }
    ∷ record { section = 1; start = 10; len = 2; form = DescCall; symbol = 3; reg = 0 }
    ∷ record { section = 1; start = 16; len = 2; form = DescCall; symbol = 3; reg = 0 } ∷ [])

abbrev pub links : Bool → List Linking
links relax = program relax ∷ late relax ∷ []

abbrev u : ℕ
u = 0x401000

abbrev calls : List ℕ → ℕ → ThreadLine
calls name argument = record { image = 2; action = Call name argument 0 0 }

abbrev opens : ThreadLine
opens = record { image = 2; action = Open }

-- thread 2 takes a descriptor from the first or the second word of u
abbrev lines_with : ℕ → List (List ThreadLine)
lines_with word =
    (opens ∷ calls (codes "f") u ∷ record { image = 1; action = Call (codes "a") 0 0 0 } ∷ calls (codes "f") u
    ∷ record { image = 2; action = Peek (codes "v") 4 } ∷ [])
    ∷ (record { image = 2; action = Close } ∷ opens ∷ calls (codes "g") word ∷ []) ∷ []

-- the second turn of thread 1 ends in the middle of its first call of f
abbrev pub order : List ℕ
order = 1 ∷ 1 ∷ 2 ∷ 2 ∷ []

-- what is printed, without the last line of thread 2
abbrev says_with : Said → Says
says_with last = (
  (record { points = 0 ∷ []; ending = Answered (Opened 2) }
      ∷ record { points = 1 ∷ 3 ∷ []; ending = Answered (Fault Unloaded) }
      ∷ record { points = 3 ∷ []; ending = Stopped (Returned 0) }
      ∷ record { points = 3 ∷ 3 ∷ []; ending = Stopped (Returned 0xffff_ffc0_0300_0004) }
      ∷ record { points = 3 ∷ []; ending = Answered (Bytes (bytes_of_digits (codes "05000000"))) } ∷ [])
      ∷ (record { points = 1 ∷ []; ending = Answered Closed }
      ∷ record { points = 2 ∷ []; ending = Answered (Opened 3) } ∷ last ∷ []) ∷ [],
  record { thread = 1; line = 1; opens = true; image = 2 }
      ∷ record { thread = 2; line = 1; opens = false; image = 2 }
      ∷ record { thread = 2; line = 2; opens = true; image = 2 } ∷ [],
)

-- ** the new descriptor

abbrev pub lines : List (List ThreadLine)
lines = lines_with u

abbrev pub says : Says
says = says_with (record { points = 3 ∷ 3 ∷ []; ending = Stopped (Returned 0xffff_ffc0_0300_0004) })

-- ** the old descriptor

abbrev pub lines_with_old : List (List ThreadLine)
lines_with_old = lines_with (u + 8)

abbrev pub means : Says
means = says_with (record { points = 3 ∷ []; ending = Stopped (Unclean 0x1_0c00_0010 Descriptor) })

abbrev pub first : UncleanStep
first = record { thread = 2; line = 3; address = 0x1_0c00_0010; cause = Descriptor }

abbrev pub does : Says
does = says_with (record { points = 3 ∷ []; ending = Stopped (Address 0x1_0c00_0010) })

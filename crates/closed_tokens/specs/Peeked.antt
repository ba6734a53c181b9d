-- Bytes of variables that lines show. The program's one object, as assembled:
--
--   f: mov v@gottpoff(%rip), %rax             .section .tdata
--      addl $1, %fs:(%rax)                    v:   .quad 0x0807060504030201
--      ret                                    w:   .quad 0
--   g: lea v@tlsdesc(%rip), %rax
--      mov v@gottpoff(%rip), %rcx
--      mov %rax, %fs:(%rcx)
--      lea v@tlsld(%rip), %rdi
--      call __tls_get_addr@PLT
--      mov %rax, w@dtpoff(%rax)
--      mov $1, %eax
--      ret
--
-- Thread 1 counts in v by f, and its next line shows v, the lowest byte first. Thread 2 shows its own v, in which no
-- thread counted; a line for one byte more than its block has is refused.
--
-- In a job of its own thread 1 calls g, which stores a descriptor in v and the base of the thread's block in w. Then a
-- line that shows v is unclean, and one that shows both is unclean at w: a base is reported before a descriptor,
-- wherever the two are. The machine shows what its linker chose. If rewritten, the descriptor is the distance of v
-- from the thread pointer, -16, and the base is that pointer; if kept, the descriptor is an address in the table, and
-- the base is the block's address.
use Rattle.std.specs.Prelude.{ℕ, Bool, List, [], ◌∷◌, codes, if◌then◌else◌}
use Rattle.guest_arithmetic.specs.declared.cause.Cause.TheVariants.{Base, Descriptor}
use Rattle.guest_operands.specs.declared.stop.Stop.TheVariants.{Returned, Unclean}
use Rattle.job_text.specs.declared.thread_lines.Action.TheVariants.{Call, Peek}
use Rattle.job_text.specs.declared.thread_lines.ThreadLine.{ThreadLine}
use Rattle.link_faults.specs.declared.image_kind.ImageKind.TheVariants.{Exe}
use Rattle.link_needs.specs.Linking.{Linking}
use Rattle.sequence_forms.specs.declared.forms.Form.TheVariants.{Ld, IeMov, DescLea}
use Rattle.thread_blocks.specs.Turns.{Answered, Said, Stopped}
use Rattle.transcript_text.specs.declared.outcomes.LineRefusal.TheVariants.{Length}
use Rattle.transcript_text.specs.declared.outcomes.Outcome.TheVariants.{Bytes, Refused}
use Rattle.whole_meaning.specs.declared.unclean.UncleanStep.{UncleanStep}
use Rattle.closed_jobs.specs.Worlds.{Says, file, link_of_object}
use Rattle.elf_records.specs.Digits.{bytes_of_digits}

unfoldable pub program_object : List ℕ
unfolding file
program_object = file (
    codes "7f454c4602010100000000000000000001003e0001000000000000000000000000000000000000002002000000000000"
    ∷ codes "00000000400000000000400007000600488b050000000064830001c3488d0500000000488b0d0000000064488901488d"
    ∷ codes "3d00000000e80000000048898000000000b801000000c300010203040506070800000000000000000000000000000000"
    ∷ codes "000000000000000000000000000000000100000006000300080000000000000000000000000000000300000012000100"
    ∷ codes "000000000000000000000000000000000500000010000000000000000000000000000000000000001b00000016000300"
    ∷ codes "000000000000000000000000000000001d000000120001000c0000000000000000000000000000001f00000010000000"
    ∷ codes "0000000000000000000000000000000000770066005f474c4f42414c5f4f46465345545f5441424c455f00760067005f"
    ∷ codes "5f746c735f6765745f6164647200000003000000000000001600000004000000fcffffffffffffff0f00000000000000"
    ∷ codes "2200000004000000fcffffffffffffff16000000000000001600000004000000fcffffffffffffff2100000000000000"
    ∷ codes "1400000004000000fcffffffffffffff26000000000000000400000006000000fcffffffffffffff2d00000000000000"
    ∷ codes "15000000010000000000000000000000002e73796d746162002e737472746162002e7368737472746162002e72656c61"
    ∷ codes "2e74657874002e7464617461000000000000000000000000000000000000000000000000000000000000000000000000"
    ∷ codes "000000000000000000000000000000000000000000000000000000000000000020000000010000000600000000000000"
    ∷ codes "000000000000000040000000000000003700000000000000000000000000000001000000000000000000000000000000"
    ∷ codes "1b0000000400000040000000000000000000000000000000600100000000000090000000000000000400000001000000"
    ∷ codes "080000000000000018000000000000002600000001000000030400000000000000000000000000007800000000000000"
    ∷ codes "100000000000000000000000000000000800000000000000000000000000000001000000020000000000000000000000"
    ∷ codes "00000000000000008800000000000000a800000000000000050000000200000008000000000000001800000000000000"
    ∷ codes "09000000030000000000000000000000000000000000000030010000000000002e000000000000000000000000000000"
    ∷ codes "01000000000000000000000000000000110000000300000000000000000000000000000000000000f001000000000000"
    ∷ codes "2d00000000000000000000000000000001000000000000000000000000000000" ∷ [])

unfoldable pub program : Bool → Linking
unfolding program_object
program relax = link_of_object Exe program_object ((codes "v" ∷ []) ∷ []) relax
    (record { section = 1; start = 0; len = 7; form = IeMov; symbol = 4; reg = 0 }
    ∷ record { section = 1; start = 12; len = 7; form = DescLea; symbol = 4; reg = 0 }
    ∷ record { section = 1; start = 19; len = 7; form = IeMov; symbol = 4; reg = 1 }
    ∷ record { section = 1; start = 30; len = 12; form = Ld; symbol = 4; reg = 0 } ∷ [])

abbrev pub links : Bool → List Linking
links relax = program relax ∷ []

-- the first bytes of v
abbrev peeks : ℕ → ThreadLine
peeks size = record { image = 1; action = Peek (codes "v") size }

-- a line that shows these bytes
abbrev shown : List ℕ → Said
shown digits = record { points = 0 ∷ []; ending = Answered (Bytes (bytes_of_digits digits)) }

-- ** numbers

abbrev pub lines : List (List ThreadLine)
lines = (record { image = 1; action = Call (codes "f") 0 0 0 } ∷ peeks 8 ∷ [])
    ∷ (peeks 8 ∷ peeks 17 ∷ []) ∷ []

-- f returns the distance of v from the thread pointer
abbrev pub says : Says
says = (
  (record { points = 0 ∷ []; ending = Stopped (Returned 0xfffffffffffffff0) }
      ∷ shown (codes "0202030405060708") ∷ [])
      ∷ (shown (codes "0102030405060708")
      ∷ record { points = 0 ∷ []; ending = Answered (Refused Length) } ∷ []) ∷ [],
  [],
)

-- ** a descriptor and a base

abbrev pub marked : List (List ThreadLine)
marked = (record { image = 1; action = Call (codes "g") 0 0 0 } ∷ peeks 8 ∷ peeks 16 ∷ []) ∷ []

abbrev pub means : Says
means = (
  (record { points = 0 ∷ []; ending = Stopped (Returned 1) }
      ∷ record { points = 0 ∷ []; ending = Stopped (Unclean 0x13f_ffff_fff0 Descriptor) }
      ∷ record { points = 0 ∷ []; ending = Stopped (Unclean 0x13f_ffff_fff8 Base) } ∷ []) ∷ [],
  [],
)

abbrev pub first : UncleanStep
first = record { thread = 1; line = 2; address = 0x13f_ffff_fff0; cause = Descriptor }

abbrev pub does : Bool → Says
does relax = (
  (record { points = 0 ∷ []; ending = Stopped (Returned 1) }
      ∷ shown (if relax then codes "f0ffffffffffffff" else codes "1020400000000000")
      ∷ shown (if relax then codes "f0ffffffffffffff0000000040010000" else codes "1020400000000000f0ffffff3f010000")
      ∷ []) ∷ [],
  [],
)

-- A program with Local Dynamic code and a descriptor. Its one object, as assembled:
--
--   f: lea x@tlsld(%rip), %rdi                  .section .tdata
--      call __tls_get_addr@PLT                       .long 7
--      mov x@dtpoff(%rax), %eax                 x:   .long 5
--      ret
--   g: lea x@tlsdesc(%rip), %rax
--      call *x@tlscall(%rax)
--      ret
--
-- f loads x. g returns the distance of x from the thread pointer: -4, since the program's block of 8 bytes ends there.
-- No call depends on a number that the linker chose, so rewritten code and kept code print the same.
use Rattle.std.specs.Prelude.{ℕ, Bool, List, [], ◌∷◌, codes}
use Rattle.job_text.specs.declared.thread_lines.Action.TheVariants.{Call}
use Rattle.job_text.specs.declared.thread_lines.ThreadLine.{ThreadLine}
use Rattle.guest_operands.specs.declared.stop.Stop.TheVariants.{Returned}
use Rattle.link_faults.specs.declared.image_kind.ImageKind.TheVariants.{Exe}
use Rattle.link_needs.specs.Linking.{Linking}
use Rattle.sequence_forms.specs.declared.forms.Form.TheVariants.{Ld, DescLea, DescCall}
use Rattle.thread_blocks.specs.Turns.{Stopped}
use Rattle.closed_jobs.specs.Worlds.{Says, file, link_of_object}

unfoldable pub object : List ℕ
unfolding file
object = file (
    codes "7f454c4602010100000000000000000001003e000100000000000000000000000000000000000000d001000000000000"
    ∷ codes "00000000400000000000400007000600488d3d00000000e8000000008b8000000000c3488d0500000000ff10c3000000"
    ∷ codes "070000000500000000000000000000000000000000000000000000000000000001000000060203000400000000000000"
    ∷ codes "040000000000000003000000120001000000000000000000130000000000000005000000100000000000000000000000"
    ∷ codes "00000000000000001b00000010000000000000000000000000000000000000002a000000120001001300000000000000"
    ∷ codes "0a0000000000000000780066005f474c4f42414c5f4f46465345545f5441424c455f005f5f746c735f6765745f616464"
    ∷ codes "720067000000000003000000000000001400000001000000fcffffffffffffff08000000000000000400000004000000"
    ∷ codes "fcffffffffffffff0e000000000000001500000001000000000000000000000016000000000000002200000001000000"
    ∷ codes "fcffffffffffffff1a0000000000000023000000010000000000000000000000002e73796d746162002e737472746162"
    ∷ codes "002e7368737472746162002e72656c612e74657874002e74646174610000000000000000000000000000000000000000"
    ∷ codes "000000000000000000000000000000000000000000000000000000000000000000000000000000000000000000000000"
    ∷ codes "20000000010000000600000000000000000000000000000040000000000000001d000000000000000000000000000000"
    ∷ codes "010000000000000000000000000000001b00000004000000400000000000000000000000000000002801000000000000"
    ∷ codes "780000000000000004000000010000000800000000000000180000000000000026000000010000000304000000000000"
    ∷ codes "000000000000000060000000000000000800000000000000000000000000000004000000000000000000000000000000"
    ∷ codes "010000000200000000000000000000000000000000000000680000000000000090000000000000000500000002000000"
    ∷ codes "08000000000000001800000000000000090000000300000000000000000000000000000000000000f800000000000000"
    ∷ codes "2c0000000000000000000000000000000100000000000000000000000000000011000000030000000000000000000000"
    ∷ codes "0000000000000000a0010000000000002d00000000000000000000000000000001000000000000000000000000000000" ∷ [])

unfoldable pub program : Bool → Linking
unfolding object
program relax = link_of_object Exe object ([] ∷ []) relax
    (record { section = 1; start = 0; len = 12; form = Ld; symbol = 1; reg = 0 }
    ∷ record { section = 1; start = 19; len = 7; form = DescLea; symbol = 1; reg = 0 }
    ∷ record { section = 1; start = 26; len = 2; form = DescCall; symbol = 1; reg = 0 } ∷ [])

abbrev pub links : Bool → List Linking
links relax = program relax ∷ []

-- thread 1 calls f, and then g
abbrev pub lines : List (List ThreadLine)
lines = (record { image = 1; action = Call (codes "f") 0 0 0 }
    ∷ record { image = 1; action = Call (codes "g") 0 0 0 } ∷ []) ∷ []

abbrev pub says : Says
says = (
  (record { points = 0 ∷ []; ending = Stopped (Returned 5) }
      ∷ record { points = 0 ∷ []; ending = Stopped (Returned 0xfffffffffffffffc) } ∷ []) ∷ [],
  [],
)

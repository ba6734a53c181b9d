-- Three threads, of which one hands over tokens to the others. The program can be moved (pie), x is the library's:
--
--   p: lea x@tlsdesc(%rip), %rax           g: mov e@gotpcrel(%rip), %rbx
--      mov %rax, w(%rip)                      call *h@gotpcrel(%rip)
--      lea y@tlsld(%rip), %rdi                add (%rbx), %eax
--      call __tls_get_addr@PLT                ret
--      mov %rax, u(%rip)                   h: movabs $e, %rax
--      mov y@dtpoff(%rax), %eax               mov (%rax), %eax
--      ret                                    ret
--   t: mov u(%rip), %rax                   .section .rodata
--      mov y@dtpoff(%rax), %eax            e:   .long 8
--      ret                                 .section .tdata
--   s: mov w(%rip), %rax                        .long 3
--      call *x@tlscall(%rax)               y:   .long 6
--      ret                                 .data
--                                          u:   .quad 0
--                                          w:   .quad 0
--
-- Thread 1 stores a descriptor of x and the base of its own block in the program's data. Thread 2 loads the base and
-- accesses y: that is in a block of thread 1, which thread 2 does not have. Thread 3 calls the descriptor, and gets
-- the distance of x from its own thread pointer, -12. In a job of its own g reads e by an address in a table and by
-- one in the code, 8 each time: both are addresses in the program as it was moved.
use Rattle.std.specs.Prelude.{ℕ, Bool, List, [], ◌∷◌, codes}
use Rattle.guest_operands.specs.declared.stop.Stop.TheVariants.{Returned, Address}
use Rattle.job_text.specs.declared.thread_lines.Action.TheVariants.{Call}
use Rattle.job_text.specs.declared.thread_lines.ThreadLine.{ThreadLine}
use Rattle.link_faults.specs.declared.image_kind.ImageKind.TheVariants.{Pie}
use Rattle.link_needs.specs.Linking.{Linking}
use Rattle.sequence_forms.specs.declared.forms.Form.TheVariants.{Ld, DescLea, DescCall}
use Rattle.thread_blocks.specs.Turns.{Stopped}
use Rattle.closed_forms.specs.Library.{library}
use Rattle.closed_jobs.specs.Worlds.{Says, file, link_of_object}

unfoldable pub program_object : List ℕ
unfolding file
program_object = file (
    codes "7f454c4602010100000000000000000001003e000100000000000000000000000000000000000000e003000000000000"
    ∷ codes "00000000400000000000400009000800488d050000000048890500000000488d3d00000000e800000000488905000000"
    ∷ codes "008b8000000000c3488b05000000008b8000000000c3488b0500000000ff10c3488b1d00000000ff15000000000303c3"
    ∷ codes "48b800000000000000008b00c30000000000000000000000000000000000000008000000030000000600000000000000"
    ∷ codes "000000000000000000000000000000000000000000000000000000000300030000000000000000000000000000000000"
    ∷ codes "010000000000030008000000000000000000000000000000030000000600050004000000000000000000000000000000"
    ∷ codes "050000000000030000000000000000000000000000000000070000000000040000000000000000000000000000000000"
    ∷ codes "000000000300040000000000000000000000000000000000090000001200010000000000000000000000000000000000"
    ∷ codes "0b0000001000000000000000000000000000000000000000210000001600000000000000000000000000000000000000"
    ∷ codes "230000001000000000000000000000000000000000000000320000001200010028000000000000000000000000000000"
    ∷ codes "340000001200010036000000000000000000000000000000360000001200010040000000000000000000000000000000"
    ∷ codes "38000000120001005000000000000000000000000000000000770079007500650070005f474c4f42414c5f4f46465345"
    ∷ codes "545f5441424c455f0078005f5f746c735f6765745f616464720074007300670068000000000000000300000000000000"
    ∷ codes "2200000009000000fcffffffffffffff0a00000000000000020000000100000004000000000000001100000000000000"
    ∷ codes "1400000003000000fcffffffffffffff1600000000000000040000000a000000fcffffffffffffff1d00000000000000"
    ∷ codes "0200000001000000fcffffffffffffff2300000000000000150000000300000000000000000000002b00000000000000"
    ∷ codes "0200000001000000fcffffffffffffff3100000000000000150000000300000000000000000000003900000000000000"
    ∷ codes "020000000100000004000000000000003d00000000000000230000000900000000000000000000004300000000000000"
    ∷ codes "0900000005000000fcffffffffffffff4900000000000000090000000e000000fcffffffffffffff5200000000000000"
    ∷ codes "01000000060000000000000000000000002e73796d746162002e737472746162002e7368737472746162002e72656c61"
    ∷ codes "2e74657874002e64617461002e726f64617461002e746461746100000000000000000000000000000000000000000000"
    ∷ codes "000000000000000000000000000000000000000000000000000000000000000000000000000000000000000000000000"
    ∷ codes "20000000010000000600000000000000000000000000000040000000000000005d000000000000000000000000000000"
    ∷ codes "010000000000000000000000000000001b00000004000000400000000000000000000000000000006802000000000000"
    ∷ codes "380100000000000006000000010000000800000000000000180000000000000026000000010000000300000000000000"
    ∷ codes "0000000000000000a0000000000000001000000000000000000000000000000008000000000000000000000000000000"
    ∷ codes "2c0000000100000002000000000000000000000000000000b00000000000000004000000000000000000000000000000"
    ∷ codes "01000000000000000000000000000000340000000100000003040000000000000000000000000000b400000000000000"
    ∷ codes "080000000000000000000000000000000400000000000000000000000000000001000000020000000000000000000000"
    ∷ codes "0000000000000000c0000000000000006801000000000000070000000700000008000000000000001800000000000000"
    ∷ codes "09000000030000000000000000000000000000000000000028020000000000003a000000000000000000000000000000"
    ∷ codes "01000000000000000000000000000000110000000300000000000000000000000000000000000000a003000000000000"
    ∷ codes "3b00000000000000000000000000000001000000000000000000000000000000" ∷ [])

unfoldable pub program : Bool → Linking
unfolding program_object
program relax = link_of_object Pie program_object ([] ∷ (codes "x" ∷ []) ∷ []) relax
    (record { section = 1; start = 0; len = 7; form = DescLea; symbol = 9; reg = 0 }
    ∷ record { section = 1; start = 14; len = 12; form = Ld; symbol = 3; reg = 0 }
    ∷ record { section = 1; start = 61; len = 2; form = DescCall; symbol = 9; reg = 0 } ∷ [])

abbrev pub links : Bool → List Linking
links relax = program relax ∷ library relax ∷ []

-- each thread calls one function
abbrev pub calls : List ℕ → List ThreadLine
calls name = record { image = 1; action = Call name 0 0 0 } ∷ []

abbrev pub lines : List (List ThreadLine)
lines = calls (codes "p") ∷ calls (codes "t") ∷ calls (codes "s") ∷ []

abbrev pub order : List ℕ
order = 1 ∷ 2 ∷ 3 ∷ []

abbrev pub says : Says
says = (
  (record { points = 0 ∷ []; ending = Stopped (Returned 6) } ∷ [])
      ∷ (record { points = 0 ∷ []; ending = Stopped (Address 0x10400002f) } ∷ [])
      ∷ (record { points = 0 ∷ []; ending = Stopped (Returned 0xfffffffffffffff4) } ∷ []) ∷ [],
  [],
)

-- g alone
abbrev pub reading : List (List ThreadLine)
reading = calls (codes "g") ∷ []

abbrev pub says_of_reading : Says
says_of_reading = ((record { points = 0 ∷ []; ending = Stopped (Returned 16) } ∷ []) ∷ [], [])

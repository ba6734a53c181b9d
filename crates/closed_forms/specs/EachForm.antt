-- A program that reaches variables in each way that code can. y is its own, x is the library's:
--
--   a: data16 lea x@tlsgd(%rip), %rdi              c: lea x@tlsdesc(%rip), %rax
--      data16 data16 rex64                            call *x@tlscall(%rax)
--      call __tls_get_addr@PLT                        mov %fs:(%rax), %ebx
--      mov (%rax), %ebx                               mov %fs:0, %r12
--      data16 lea y@tlsgd(%rip), %rdi                 add y@gottpoff(%rip), %r12
--      data16 rex64                                   add (%r12), %ebx
--      call *__tls_get_addr@GOTPCREL(%rip)            mov %ebx, %eax
--      add (%rax), %ebx                               ret
--      mov %ebx, %eax                              .section .tdata
--      ret                                              .long 3
--   b: lea y@tlsld(%rip), %rdi                     y:   .long 6
--      call *__tls_get_addr@GOTPCREL(%rip)
--      mov y@dtpoff(%rax), %ebx
--      mov y@gottpoff(%rip), %rcx
--      add %fs:(%rcx), %ebx
--      mov %ebx, %eax
--      ret
--
-- Each function loads twice and returns the sum, whatever its sequences were rewritten to:
--
--   a  gd               to a load of the distance of x from the table (gd-ie)             7
--      gd-ind           to the distance of y in the code (gd-le)                          6
--   b  ld-ind           to the thread pointer (ld-le)                                     6
--      ie-mov           to the distance of y in the code (ie-le)                          6
--   c  desc-lea, -call  to a load of the distance of x from the table, and to a nop       7
--      ie-add           to the distance of y in the code, added: %r12 takes an add        6
use Rattle.std.specs.Prelude.{ℕ, Bool, List, [], ◌∷◌, codes}
use Rattle.guest_operands.specs.declared.stop.Stop.TheVariants.{Returned}
use Rattle.job_text.specs.declared.thread_lines.Action.TheVariants.{Call}
use Rattle.job_text.specs.declared.thread_lines.ThreadLine.{ThreadLine}
use Rattle.link_faults.specs.declared.image_kind.ImageKind.TheVariants.{Exe}
use Rattle.link_needs.specs.Linking.{Linking}
use Rattle.sequence_forms.specs.declared.forms.Form.TheVariants.{Gd, GdInd, LdInd, DescLea, DescCall, IeMov, IeAdd}
use Rattle.thread_blocks.specs.Turns.{Stopped}
use Rattle.closed_forms.specs.Library.{library}
use Rattle.closed_jobs.specs.Worlds.{BothSay, Says, file, link_of_object}

unfoldable pub program_object : List ℕ
unfolding file
program_object = file (
    codes "7f454c4602010100000000000000000001003e000100000000000000000000000000000000000000e002000000000000"
    ∷ codes "0000000040000000000040000700060066488d3d00000000666648e8000000008b1866488d3d000000006648ff150000"
    ∷ codes "0000031889d8c3488d3d00000000ff15000000008b9800000000488b0d0000000064031989d8c3488d0500000000ff10"
    ∷ codes "648b18644c8b2425000000004c03250000000041031c2489d8c300000300000006000000000000000000000000000000"
    ∷ codes "000000000000000000000000000000000100000006000300040000000000000000000000000000000300000012000100"
    ∷ codes "000000000000000000000000000000000500000010000000000000000000000000000000000000001b00000016000000"
    ∷ codes "000000000000000000000000000000001d00000010000000000000000000000000000000000000002c00000012000100"
    ∷ codes "270000000000000000000000000000002e000000120001004700000000000000000000000000000000790061005f474c"
    ∷ codes "4f42414c5f4f46465345545f5441424c455f0078005f5f746c735f6765745f6164647200620063000400000000000000"
    ∷ codes "1300000004000000fcffffffffffffff0c000000000000000400000005000000fcffffffffffffff1600000000000000"
    ∷ codes "1300000001000000fcffffffffffffff1e000000000000000900000005000000fcffffffffffffff2a00000000000000"
    ∷ codes "1400000001000000fcffffffffffffff30000000000000000900000005000000fcffffffffffffff3600000000000000"
    ∷ codes "150000000100000000000000000000003d000000000000001600000001000000fcffffffffffffff4a00000000000000"
    ∷ codes "2200000004000000fcffffffffffffff4e00000000000000230000000400000000000000000000005f00000000000000"
    ∷ codes "1600000001000000fcffffffffffffff002e73796d746162002e737472746162002e7368737472746162002e72656c61"
    ∷ codes "2e74657874002e7464617461000000000000000000000000000000000000000000000000000000000000000000000000"
    ∷ codes "000000000000000000000000000000000000000000000000000000000000000020000000010000000600000000000000"
    ∷ codes "000000000000000040000000000000006a00000000000000000000000000000001000000000000000000000000000000"
    ∷ codes "1b0000000400000040000000000000000000000000000000a80100000000000008010000000000000400000001000000"
    ∷ codes "08000000000000001800000000000000260000000100000003040000000000000000000000000000ac00000000000000"
    ∷ codes "080000000000000000000000000000000400000000000000000000000000000001000000020000000000000000000000"
    ∷ codes "0000000000000000b800000000000000c000000000000000050000000200000008000000000000001800000000000000"
    ∷ codes "090000000300000000000000000000000000000000000000780100000000000030000000000000000000000000000000"
    ∷ codes "01000000000000000000000000000000110000000300000000000000000000000000000000000000b002000000000000"
    ∷ codes "2d00000000000000000000000000000001000000000000000000000000000000" ∷ [])

unfoldable pub program : Bool → Linking
unfolding program_object
program relax = link_of_object Exe program_object ([] ∷ (codes "x" ∷ []) ∷ []) relax
    (record { section = 1; start = 0; len = 16; form = Gd; symbol = 4; reg = 0 }
    ∷ record { section = 1; start = 18; len = 16; form = GdInd; symbol = 1; reg = 0 }
    ∷ record { section = 1; start = 39; len = 13; form = LdInd; symbol = 1; reg = 0 }
    ∷ record { section = 1; start = 58; len = 7; form = IeMov; symbol = 1; reg = 1 }
    ∷ record { section = 1; start = 71; len = 7; form = DescLea; symbol = 4; reg = 0 }
    ∷ record { section = 1; start = 78; len = 2; form = DescCall; symbol = 4; reg = 0 }
    ∷ record { section = 1; start = 92; len = 7; form = IeAdd; symbol = 1; reg = 12 } ∷ [])

abbrev pub links : Bool → List Linking
links relax = program relax ∷ library relax ∷ []

-- thread 1 calls a function of the program
abbrev pub calls : List ℕ → List (List ThreadLine)
calls name = (record { image = 1; action = Call name 0 0 0 } ∷ []) ∷ []

abbrev pub answers : ℕ → Says
answers number = ((record { points = 0 ∷ []; ending = Stopped (Returned number) } ∷ []) ∷ [], [])

-- in both worlds the function with this name returns the number
abbrev pub Loads : Bool → List ℕ → ℕ → Type 0
Loads relax name number = BothSay (links relax) 8 (calls name) [] (answers number)

pub record EachLoads (relax : Bool) : Type 0 where
  pub general : Loads relax (codes "a") 13
  pub local : Loads relax (codes "b") 12
  pub described : Loads relax (codes "c") 13

-- A program with a variable of its own, and a late module that another thread closes. Their objects, as assembled:
--
--   program a: data16 lea w@tlsgd(%rip), %rdi      module f: data16 lea v@tlsgd(%rip), %rdi
--              data16 data16 rex64                           data16 data16 rex64
--              call __tls_get_addr@PLT                       call __tls_get_addr@PLT
--              mov (%rax), %eax                              mov (%rax), %eax
--              ret                                           ret
--   .tdata  w: .long 9                             module g: mov v@gottpoff(%rip), %rax
--                                                            ret
--                                                  .tdata v: .long 5
--
-- Thread 1 opens the module, calls f, which looks again at __tls_get_addr and finds v, and calls f once more. Now
-- thread 2 closes the module while that call waits for its look, so the call can't go on. When it is opened again, the
-- module is instance 3, and g returns its variable's distance from the thread pointer in the static surplus: -12,
-- below the 4 bytes of w and the block of the load before it. The program's own sequence is rewritten in one setting,
-- and kept in the other.
use Rattle.std.specs.Prelude.{ℕ, Bool, true, false, List, [], ◌∷◌, codes}
use Rattle.guest_operands.specs.declared.stop.Stop.TheVariants.{Returned}
use Rattle.job_text.specs.declared.thread_lines.Action.TheVariants.{Call, Open, Close}
use Rattle.job_text.specs.declared.thread_lines.ThreadLine.{ThreadLine}
use Rattle.link_faults.specs.declared.image_kind.ImageKind.TheVariants.{Exe, Late}
use Rattle.link_needs.specs.Linking.{Linking}
use Rattle.sequence_forms.specs.declared.forms.Form.TheVariants.{Gd, IeMov}
use Rattle.thread_blocks.specs.Turns.{Answered, Stopped}
use Rattle.transcript_text.specs.declared.outcomes.LineFault.TheVariants.{Unloaded}
use Rattle.transcript_text.specs.declared.outcomes.Outcome.TheVariants.{Opened, Closed, Fault}
use Rattle.closed_jobs.specs.Worlds.{Says, file, link_of_object}

unfoldable pub program_object : List ℕ
unfolding file
program_object = file (
    codes "7f454c4602010100000000000000000001003e0001000000000000000000000000000000000000006001000000000000"
    ∷ codes "0000000040000000000040000700060066488d3d00000000666648e8000000008b00c300090000000000000000000000"
    ∷ codes "000000000000000000000000000000000100000006020300000000000000000004000000000000000300000012000100"
    ∷ codes "000000000000000013000000000000000500000010000000000000000000000000000000000000001b00000010000000"
    ∷ codes "0000000000000000000000000000000000770061005f474c4f42414c5f4f46465345545f5441424c455f005f5f746c73"
    ∷ codes "5f6765745f616464720000000000000004000000000000001300000001000000fcffffffffffffff0c00000000000000"
    ∷ codes "0400000004000000fcffffffffffffff002e73796d746162002e737472746162002e7368737472746162002e72656c61"
    ∷ codes "2e74657874002e7464617461000000000000000000000000000000000000000000000000000000000000000000000000"
    ∷ codes "000000000000000000000000000000000000000000000000000000000000000020000000010000000600000000000000"
    ∷ codes "000000000000000040000000000000001300000000000000000000000000000001000000000000000000000000000000"
    ∷ codes "1b0000000400000040000000000000000000000000000000000100000000000030000000000000000400000001000000"
    ∷ codes "080000000000000018000000000000002600000001000000030400000000000000000000000000005400000000000000"
    ∷ codes "040000000000000000000000000000000400000000000000000000000000000001000000020000000000000000000000"
    ∷ codes "000000000000000058000000000000007800000000000000050000000200000008000000000000001800000000000000"
    ∷ codes "090000000300000000000000000000000000000000000000d0000000000000002a000000000000000000000000000000"
    ∷ codes "010000000000000000000000000000001100000003000000000000000000000000000000000000003001000000000000"
    ∷ codes "2d00000000000000000000000000000001000000000000000000000000000000" ∷ [])

unfoldable pub module_object : List ℕ
unfolding file
module_object = file (
    codes "7f454c4602010100000000000000000001003e0001000000000000000000000000000000000000009801000000000000"
    ∷ codes "0000000040000000000040000700060066488d3d00000000666648e8000000008b00c3488b0500000000c30005000000"
    ∷ codes "000000000000000000000000000000000000000000000000010000001200010000000000000000001300000000000000"
    ∷ codes "030000001000000000000000000000000000000000000000190000001600030000000000000000000400000000000000"
    ∷ codes "1b00000010000000000000000000000000000000000000002a0000001200010013000000000000000800000000000000"
    ∷ codes "0066005f474c4f42414c5f4f46465345545f5441424c455f0076005f5f746c735f6765745f6164647200670000000000"
    ∷ codes "04000000000000001300000003000000fcffffffffffffff0c000000000000000400000004000000fcffffffffffffff"
    ∷ codes "16000000000000001600000003000000fcffffffffffffff002e73796d746162002e737472746162002e736873747274"
    ∷ codes "6162002e72656c612e74657874002e746461746100000000000000000000000000000000000000000000000000000000"
    ∷ codes "000000000000000000000000000000000000000000000000000000000000000000000000000000002000000001000000"
    ∷ codes "0600000000000000000000000000000040000000000000001b0000000000000000000000000000000100000000000000"
    ∷ codes "00000000000000001b000000040000004000000000000000000000000000000020010000000000004800000000000000"
    ∷ codes "040000000100000008000000000000001800000000000000260000000100000003040000000000000000000000000000"
    ∷ codes "5c0000000000000004000000000000000000000000000000040000000000000000000000000000000100000002000000"
    ∷ codes "000000000000000000000000000000006000000000000000900000000000000005000000010000000800000000000000"
    ∷ codes "1800000000000000090000000300000000000000000000000000000000000000f0000000000000002c00000000000000"
    ∷ codes "000000000000000001000000000000000000000000000000110000000300000000000000000000000000000000000000"
    ∷ codes "68010000000000002d00000000000000000000000000000001000000000000000000000000000000" ∷ [])

unfoldable pub program : Bool → Linking
unfolding program_object
program relax = link_of_object Exe program_object ([] ∷ []) relax
    (record { section = 1; start = 0; len = 16; form = Gd; symbol = 1; reg = 0 } ∷ [])

unfoldable pub late : Bool → Linking
unfolding module_object
late relax = link_of_object Late module_object ([] ∷ []) relax
    (record { section = 1; start = 0; len = 16; form = Gd; symbol = 3; reg = 0 }
    ∷ record { section = 1; start = 19; len = 7; form = IeMov; symbol = 3; reg = 0 } ∷ [])

abbrev pub links : Bool → List Linking
links relax = program relax ∷ late relax ∷ []

abbrev pub lines : List (List ThreadLine)
lines =
    (record { image = 2; action = Open }
    ∷ record { image = 2; action = Call (codes "f") 0 0 0 }
    ∷ record { image = 2; action = Call (codes "f") 0 0 0 }
    ∷ record { image = 2; action = Open }
    ∷ record { image = 2; action = Call (codes "g") 0 0 0 }
    ∷ record { image = 1; action = Call (codes "a") 0 0 0 } ∷ [])
    ∷ (record { image = 2; action = Close } ∷ []) ∷ []

-- the fourth turn of thread 1 ends in the middle of its second call of f
abbrev pub order : List ℕ
order = 1 ∷ 1 ∷ 1 ∷ 1 ∷ 2 ∷ 1 ∷ []

abbrev pub says : Says
says = (
  (record { points = 0 ∷ []; ending = Answered (Opened 2) }
      ∷ record { points = 1 ∷ 1 ∷ []; ending = Stopped (Returned 5) }
      ∷ record { points = 1 ∷ 2 ∷ []; ending = Answered (Fault Unloaded) }
      ∷ record { points = 2 ∷ []; ending = Answered (Opened 3) }
      ∷ record { points = 3 ∷ []; ending = Stopped (Returned 0xfffffffffffffff4) }
      ∷ record { points = 3 ∷ []; ending = Stopped (Returned 9) } ∷ [])
      ∷ (record { points = 1 ∷ []; ending = Answered Closed } ∷ []) ∷ [],
  record { thread = 1; line = 1; opens = true; image = 2 }
      ∷ record { thread = 2; line = 1; opens = false; image = 2 }
      ∷ record { thread = 1; line = 4; opens = true; image = 2 } ∷ [],
)

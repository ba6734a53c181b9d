-- A late module that calls without a stack:
--
--   f: mov %rdi, %rsp
--      data16 lea v@tlsgd(%rip), %rdi              .section .tdata
--      data16 data16 rex64                         v:   .long 5
--      call __tls_get_addr@PLT
--      ret
--
-- Called with 8 in %rdi it has no eight bytes of stack for the return address. So the sequence is unclean, and no look
-- is made for its variable, though its instance is a late one: the line has only its first look.
use Rattle.std.specs.Prelude.{ℕ, Bool, true, List, [], ◌∷◌, codes}
use Rattle.guest_arithmetic.specs.declared.cause.Cause.TheVariants.{Undefined}
use Rattle.guest_operands.specs.declared.stop.Stop.TheVariants.{Unclean}
use Rattle.job_text.specs.declared.thread_lines.Action.TheVariants.{Call, Open}
use Rattle.job_text.specs.declared.thread_lines.ThreadLine.{ThreadLine}
use Rattle.link_faults.specs.declared.image_kind.ImageKind.TheVariants.{Late}
use Rattle.link_needs.specs.Linking.{Linking}
use Rattle.sequence_forms.specs.declared.forms.Form.TheVariants.{Gd}
use Rattle.thread_blocks.specs.Turns.{Answered, Stopped}
use Rattle.transcript_text.specs.declared.outcomes.Outcome.TheVariants.{Opened}
use Rattle.closed_forms.specs.LateData.{program}
use Rattle.closed_jobs.specs.Worlds.{Says, file, link_of_object}

unfoldable pub module_object : List ℕ
unfolding file
module_object = file (
    codes "7f454c4602010100000000000000000001003e0001000000000000000000000000000000000000006001000000000000"
    ∷ codes "000000004000000000004000070006004889fc66488d3d00000000666648e800000000c3050000000000000000000000"
    ∷ codes "000000000000000000000000000000000100000006000300000000000000000000000000000000000300000012000100"
    ∷ codes "000000000000000000000000000000000500000010000000000000000000000000000000000000001b00000010000000"
    ∷ codes "0000000000000000000000000000000000760066005f474c4f42414c5f4f46465345545f5441424c455f005f5f746c73"
    ∷ codes "5f6765745f616464720000000000000007000000000000001300000001000000fcffffffffffffff0f00000000000000"
    ∷ codes "0400000004000000fcffffffffffffff002e73796d746162002e737472746162002e7368737472746162002e72656c61"
    ∷ codes "2e74657874002e7464617461000000000000000000000000000000000000000000000000000000000000000000000000"
    ∷ codes "000000000000000000000000000000000000000000000000000000000000000020000000010000000600000000000000"
    ∷ codes "000000000000000040000000000000001400000000000000000000000000000001000000000000000000000000000000"
    ∷ codes "1b0000000400000040000000000000000000000000000000000100000000000030000000000000000400000001000000"
    ∷ codes "080000000000000018000000000000002600000001000000030400000000000000000000000000005400000000000000"
    ∷ codes "040000000000000000000000000000000400000000000000000000000000000001000000020000000000000000000000"
    ∷ codes "000000000000000058000000000000007800000000000000050000000200000008000000000000001800000000000000"
    ∷ codes "090000000300000000000000000000000000000000000000d0000000000000002a000000000000000000000000000000"
    ∷ codes "010000000000000000000000000000001100000003000000000000000000000000000000000000003001000000000000"
    ∷ codes "2d00000000000000000000000000000001000000000000000000000000000000" ∷ [])

unfoldable pub late : Bool → Linking
unfolding module_object
late relax = link_of_object Late module_object ([] ∷ []) relax
    (record { section = 1; start = 3; len = 16; form = Gd; symbol = 1; reg = 0 } ∷ [])

abbrev pub links : Bool → List Linking
links relax = program relax ∷ late relax ∷ []

abbrev pub lines : List (List ThreadLine)
lines = (record { image = 2; action = Open } ∷ record { image = 2; action = Call (codes "f") 8 0 0 } ∷ []) ∷ []

-- what the job means; its machine finds no stack either
abbrev pub says : Says
says = (
  (record { points = 0 ∷ []; ending = Answered (Opened 2) }
      ∷ record { points = 1 ∷ []; ending = Stopped (Unclean 0x108000003 Undefined) } ∷ []) ∷ [],
  record { thread = 1; line = 1; opens = true; image = 2 } ∷ [],
)

-- Data of a late module, in which two threads count:
--
--   program a: ret           module c: addl $1, n(%rip)
--                                      mov n(%rip), %eax
--                                      ret
--                            .data  n: .long 5
--
-- Thread 1 opens the module and counts, from 5 to 6, and thread 2 to 7. Then thread 2 closes it. When it is opened
-- again it is instance 3, whose data are as a load fills them: 6 comes next.
use Rattle.std.specs.Prelude.{ℕ, Bool, true, false, List, [], ◌∷◌, codes}
use Rattle.guest_operands.specs.declared.stop.Stop.TheVariants.{Returned}
use Rattle.job_text.specs.declared.thread_lines.Action.TheVariants.{Call, Open, Close}
use Rattle.job_text.specs.declared.thread_lines.ThreadLine.{ThreadLine}
use Rattle.link_faults.specs.declared.image_kind.ImageKind.TheVariants.{Exe, Late}
use Rattle.link_needs.specs.Linking.{Linking}
use Rattle.thread_blocks.specs.Turns.{Answered, Stopped}
use Rattle.transcript_text.specs.declared.outcomes.Outcome.TheVariants.{Opened, Closed}
use Rattle.closed_jobs.specs.Worlds.{Says, file, link_of_object}

unfoldable pub program_object : List ℕ
unfolding file
program_object = file (
    codes "7f454c4602010100000000000000000001003e000100000000000000000000000000000000000000a000000000000000"
    ∷ codes "00000000400000000000400005000400c300000000000000000000000000000000000000000000000000000000000000"
    ∷ codes "010000001200010000000000000000000000000000000000006100002e73796d746162002e737472746162002e736873"
    ∷ codes "7472746162002e7465787400000000000000000000000000000000000000000000000000000000000000000000000000"
    ∷ codes "00000000000000000000000000000000000000000000000000000000000000001b000000010000000600000000000000"
    ∷ codes "000000000000000040000000000000000100000000000000000000000000000001000000000000000000000000000000"
    ∷ codes "010000000200000000000000000000000000000000000000480000000000000030000000000000000300000001000000"
    ∷ codes "080000000000000018000000000000000900000003000000000000000000000000000000000000007800000000000000"
    ∷ codes "030000000000000000000000000000000100000000000000000000000000000011000000030000000000000000000000"
    ∷ codes "00000000000000007b000000000000002100000000000000000000000000000001000000000000000000000000000000" ∷ [])

unfoldable pub module_object : List ℕ
unfolding file
module_object = file (
    codes "7f454c4602010100000000000000000001003e0001000000000000000000000000000000000000002001000000000000"
    ∷ codes "00000000400000000000400007000600830500000000018b0500000000c3000005000000000000000000000000000000"
    ∷ codes "000000000000000000000000000000000000000003000300000000000000000000000000000000000100000000000300"
    ∷ codes "00000000000000000000000000000000030000001200010000000000000000000000000000000000006e006300000000"
    ∷ codes "02000000000000000200000001000000fbffffffffffffff09000000000000000200000001000000fcffffffffffffff"
    ∷ codes "002e73796d746162002e737472746162002e7368737472746162002e72656c612e74657874002e646174610000000000"
    ∷ codes "000000000000000000000000000000000000000000000000000000000000000000000000000000000000000000000000"
    ∷ codes "000000000000000000000000000000002000000001000000060000000000000000000000000000004000000000000000"
    ∷ codes "0e000000000000000000000000000000010000000000000000000000000000001b000000040000004000000000000000"
    ∷ codes "0000000000000000c0000000000000003000000000000000040000000100000008000000000000001800000000000000"
    ∷ codes "260000000100000003000000000000000000000000000000500000000000000004000000000000000000000000000000"
    ∷ codes "040000000000000000000000000000000100000002000000000000000000000000000000000000005800000000000000"
    ∷ codes "600000000000000005000000030000000800000000000000180000000000000009000000030000000000000000000000"
    ∷ codes "0000000000000000b8000000000000000500000000000000000000000000000001000000000000000000000000000000"
    ∷ codes "110000000300000000000000000000000000000000000000f0000000000000002c000000000000000000000000000000"
    ∷ codes "01000000000000000000000000000000" ∷ [])

unfoldable pub program : Bool → Linking
unfolding program_object
program relax = link_of_object Exe program_object ([] ∷ []) relax []

unfoldable pub late : Bool → Linking
unfolding module_object
late relax = link_of_object Late module_object ([] ∷ []) relax []

abbrev pub links : Bool → List Linking
links relax = program relax ∷ late relax ∷ []

abbrev counts : ThreadLine
counts = record { image = 2; action = Call (codes "c") 0 0 0 }

abbrev opens : ThreadLine
opens = record { image = 2; action = Open }

abbrev pub lines : List (List ThreadLine)
lines = (opens ∷ counts ∷ opens ∷ counts ∷ [])
    ∷ (counts ∷ record { image = 2; action = Close } ∷ []) ∷ []

abbrev pub order : List ℕ
order = 1 ∷ 1 ∷ 2 ∷ 2 ∷ 1 ∷ 1 ∷ []

abbrev pub says : Says
says = (
  (record { points = 0 ∷ []; ending = Answered (Opened 2) }
      ∷ record { points = 1 ∷ []; ending = Stopped (Returned 6) }
      ∷ record { points = 2 ∷ []; ending = Answered (Opened 3) }
      ∷ record { points = 3 ∷ []; ending = Stopped (Returned 6) } ∷ [])
      ∷ (record { points = 1 ∷ []; ending = Stopped (Returned 7) }
      ∷ record { points = 1 ∷ []; ending = Answered Closed } ∷ []) ∷ [],
  record { thread = 1; line = 1; opens = true; image = 2 }
      ∷ record { thread = 2; line = 2; opens = false; image = 2 }
      ∷ record { thread = 1; line = 3; opens = true; image = 2 } ∷ [],
)

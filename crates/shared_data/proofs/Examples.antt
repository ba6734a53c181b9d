-- What is told of a job whose threads count in one place.
use Rattle.std.proofs.Common.{◌≡◌, ℕ, List, [], ◌∷◌, Some, None, true, false, refl, Bool, Option, Ok}
use Rattle.std.specs.Prelude.{option_and_then, option_map}
use Rattle.address_map.specs.Map.{stack_start}
use Rattle.image_file.specs.Spelled.{Spelled}
use Rattle.image_file.specs.declared.part.PartClass.TheVariants.{Executable, ReadOnly, Writable}
use Rattle.elf_records.specs.declared.symbol.SymbolBinding.TheVariants.{Local, Global}
use Rattle.elf_records.specs.declared.symbol.SymbolType.TheVariants.{NoType, Object, Func}
use Rattle.elf_records.specs.declared.symbol.Visibility.TheVariants.{Default}
use Rattle.image_rules.specs.declared.places.FileKind.TheVariants.{Exe as ExeFile}
use Rattle.job_text.specs.declared.thread_lines.Action.TheVariants.{Call}
use Rattle.job_text.specs.declared.thread_lines.ThreadLine.{ThreadLine}
use Rattle.link_faults.specs.declared.image_kind.ImageKind.TheVariants.{Exe}
use Rattle.thread_blocks.specs.Instances.{Loads}
use Rattle.thread_blocks.specs.JobLoads.{job_loads}
use Rattle.thread_blocks.specs.JobWorlds.{Shared, job_start}
use Rattle.thread_blocks.specs.Lines.{Line, event_by}
use Rattle.thread_blocks.specs.RunTime.{Runs, thread_accesses, thread_turns}
use Rattle.thread_blocks.specs.Turns.{at_number}
use Rattle.thread_blocks.proofs.JobRuns.{said}
use Rattle.shared_data.specs.Changes.{Change, Filled, Written, data_at, last_left}
use Rattle.shared_data.specs.Laws.{at_order, told_at}
use Rattle.shared_data.specs.Steps.{machine_changes}
use Rattle.shared_data.specs.Told.{begins}
use Rattle.guest_arithmetic.specs.Plain.{plain_operations}

-- mov n(%rip), %eax; add $1, %eax; mov %eax, n(%rip); ret
abbrev counter_app : Spelled
counter_app = record {
  kind = ExeFile;
  parts = record {
    class = Executable;
    address = 0x400000;
    bytes = 0x8b ∷ 0x05 ∷ 0xfa ∷ 0x0f ∷ 0x00 ∷ 0x00 ∷ 0x83 ∷ 0xc0
        ∷ 0x01 ∷ 0x89 ∷ 0x05 ∷ 0xf1 ∷ 0x0f ∷ 0x00 ∷ 0x00 ∷ 0xc3 ∷ [];
  }
      ∷ record { class = Writable; address = 0x401000; bytes = 0x05 ∷ 0x00 ∷ 0x00 ∷ 0x00 ∷ [] }
      ∷ record { class = ReadOnly; address = 0x402000; bytes = [] }
      ∷ [];
  array_size = 0;
  got = None;
  tls = None;
  symbols = record { binding = Local; kind = NoType; visibility = Default; is_defined = false; value = 0x0; size = 0 }
      ∷ record { binding = Global; kind = Func; visibility = Default; is_defined = true; value = 0x400000; size = 16 }
      ∷ record { binding = Global; kind = Object; visibility = Default; is_defined = true; value = 0x401000; size = 4 }
      ∷ [];
  names = []
      ∷ (0x66 ∷ [])
      ∷ (0x6e ∷ [])
      ∷ [];
  relocations = [];
  is_flagged = false;
}

abbrev counter_loads : Loads ℕ
counter_loads = job_loads (record { kinds = Exe ∷ []; images = counter_app ∷ [] })

abbrev count_line : ThreadLine
count_line = record { image = 1; action = Call (0x66 ∷ []) 0 0 0 }

-- what three turns change, of thread 1, of thread 2, and again of thread 1
abbrev counter_told : List (Change ℕ)
counter_told = told_at counter_loads (λ thread. thread_turns counter_loads thread 4)
    (λ thread. machine_changes counter_loads thread) (λ thread. thread_accesses counter_loads thread)
    (job_start plain_operations counter_loads ((count_line ∷ count_line ∷ []) ∷ (count_line ∷ []) ∷ []))
    (1 ∷ 2 ∷ 1 ∷ [])

counted : counter_told
    ≡ Filled 1 (5 ∷ 0 ∷ 0 ∷ 0 ∷ [])
    ∷ Written 1 0 6 ∷ Written 1 1 0 ∷ Written 1 2 0 ∷ Written 1 3 0
    ∷ Written 1 0 7 ∷ Written 1 1 0 ∷ Written 1 2 0 ∷ Written 1 3 0
    ∷ Written 1 0 8 ∷ Written 1 1 0 ∷ Written 1 2 0 ∷ Written 1 3 0 ∷ []
unfolding said
counted = refl

counted_last : last_left 1 0 counter_told ≡ Some 8
unfolding said
counted_last = refl

-- where thread 1 stands that takes its second turn, and what it reads there
abbrev counter_world : Shared ℕ Bool ℕ Line
counter_world = at_order counter_loads (λ thread. thread_turns counter_loads thread 4)
    (λ thread. machine_changes counter_loads thread) (λ thread. thread_accesses counter_loads thread)
    (job_start plain_operations counter_loads ((count_line ∷ count_line ∷ []) ∷ (count_line ∷ []) ∷ [])) (1 ∷ 2 ∷ [])

abbrev second_turn : Option (ℕ × Runs)
second_turn = option_and_then (λ t. begins counter_loads (λ thread. thread_turns counter_loads thread 4)
    (λ thread. event_by counter_loads thread) (λ thread. machine_changes counter_loads thread) counter_world 1 t)
    (at_number counter_world.threads 1)

counted_place : option_and_then (λ from. data_at (stack_start 1) from.1 0x401000) second_turn ≡ Some (1, 0)
unfolding said
counted_place = refl

counted_read : option_map (λ from. (thread_accesses counter_loads 1).byte from.1.after.memory 0x401000) second_turn
    ≡ Some (Ok 7)
unfolding said
counted_read = refl

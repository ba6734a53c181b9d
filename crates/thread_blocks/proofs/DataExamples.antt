-- Data that threads share, and data of a late module, which begins anew at each load.
use Rattle.std.proofs.Common.{◌≡◌, [], ◌∷◌, None, true, false, refl}
use Rattle.guest_operands.specs.declared.stop.Stop.TheVariants.{Returned}
use Rattle.image_file.specs.Spelled.{Spelled}
use Rattle.image_file.specs.declared.part.PartClass.TheVariants.{Executable, ReadOnly, Writable}
use Rattle.elf_records.specs.declared.symbol.SymbolBinding.TheVariants.{Local, Global}
use Rattle.elf_records.specs.declared.symbol.SymbolType.TheVariants.{NoType, Object, Func}
use Rattle.elf_records.specs.declared.symbol.Visibility.TheVariants.{Default}
use Rattle.image_rules.specs.declared.places.FileKind.TheVariants.{Exe as ExeFile, Module as ModuleFile}
use Rattle.job_text.specs.declared.thread_lines.Action.TheVariants.{Call, Open, Close}
use Rattle.link_faults.specs.declared.image_kind.ImageKind.TheVariants.{Exe, Late}
use Rattle.transcript_text.specs.declared.outcomes.Outcome.TheVariants.{Opened, Closed}
use Rattle.thread_blocks.specs.Turns.{Answered, Stopped}
use Rattle.thread_blocks.proofs.ExampleImages.{variable_app}
use Rattle.thread_blocks.proofs.JobRuns.{said, told}

-- ** two threads add 1 to one counter, in turns

abbrev shared_counter_app : Spelled
shared_counter_app = record {
  kind = ExeFile;
  parts = record {
    class = Executable;
    address = 0x400000;
    bytes = 0x8b ∷ 0x05 ∷ 0xfa ∷ 0x0f ∷ 0x00 ∷ 0x00 ∷ 0x83 ∷ 0xc0 ∷ 0x01 ∷ 0x89 ∷ 0x05 ∷ 0xf1 ∷ 0x0f ∷ 0x00 ∷ 0x00
        ∷ 0xc3 ∷ [];
  }
      ∷ record { class = Writable; address = 0x401000; bytes = 0x05 ∷ 0x00 ∷ 0x00 ∷ 0x00 ∷ [] }
      ∷ record { class = ReadOnly; address = 0x402000; bytes = [] }
      ∷ [];
  array_size = 0;
  got = None;
  tls = None;
  symbols = record { binding = Local; kind = NoType; visibility = Default; is_defined = false; value = 0x0; size = 0 }
      ∷ record { binding = Global; kind = Func; visibility = Default; is_defined = true; value = 0x400000; size = 16 }
      ∷ record { binding = Global; kind = Object; visibility = Default; is_defined = true; value = 0x401000; size = 4 }
      ∷ [];
  names = []
      ∷ (0x66 ∷ [])
      ∷ (0x6e ∷ [])
      ∷ [];
  relocations = [];
  is_flagged = false;
}

shared_counter : told (said (Exe ∷ []) (shared_counter_app ∷ []) 4
    ((record { image = 1; action = Call (0x66 ∷ []) 0 0 0 } ∷ record { image = 1; action = Call (0x66 ∷ []) 0 0 0 }
    ∷ []) ∷ (record { image = 1; action = Call (0x66 ∷ []) 0 0 0 } ∷ []) ∷ [])
    (1 ∷ 2 ∷ 1 ∷ []))
    ≡ (
      ((record { points = 0 ∷ []; ending = Stopped (Returned 0x6) })
          ∷ (record { points = 0 ∷ []; ending = Stopped (Returned 0x8) }) ∷ [])
          ∷ ((record { points = 0 ∷ []; ending = Stopped (Returned 0x7) }) ∷ []) ∷ [],
      [],
    )
unfolding said
shared_counter = refl

-- ** a counter of a late module, over a close and a second load

abbrev fresh_counter_plug : Spelled
fresh_counter_plug = record {
  kind = ModuleFile;
  parts = record {
    class = Executable;
    address = 0x0;
    bytes = 0x8b ∷ 0x05 ∷ 0xfa ∷ 0x0f ∷ 0x00 ∷ 0x00 ∷ 0x83 ∷ 0xc0 ∷ 0x01 ∷ 0x89 ∷ 0x05 ∷ 0xf1 ∷ 0x0f ∷ 0x00 ∷ 0x00
        ∷ 0xc3 ∷ [];
  }
      ∷ record { class = Writable; address = 0x1000; bytes = 0x05 ∷ 0x00 ∷ 0x00 ∷ 0x00 ∷ [] }
      ∷ record { class = ReadOnly; address = 0x2000; bytes = [] }
      ∷ [];
  array_size = 0;
  got = None;
  tls = None;
  symbols = record { binding = Local; kind = NoType; visibility = Default; is_defined = false; value = 0x0; size = 0 }
      ∷ record { binding = Global; kind = Func; visibility = Default; is_defined = true; value = 0x0; size = 16 }
      ∷ record { binding = Global; kind = Object; visibility = Default; is_defined = true; value = 0x1000; size = 4 }
      ∷ [];
  names = []
      ∷ (0x66 ∷ [])
      ∷ (0x6e ∷ [])
      ∷ [];
  relocations = [];
  is_flagged = false;
}

fresh_counter : told (said (Exe ∷ Late ∷ []) (variable_app ∷ fresh_counter_plug ∷ []) 4
    ((record { image = 2; action = Open } ∷ record { image = 2; action = Call (0x66 ∷ []) 0 0 0 }
    ∷ record { image = 2; action = Close } ∷ record { image = 2; action = Open }
    ∷ record { image = 2; action = Call (0x66 ∷ []) 0 0 0 } ∷ []) ∷ [])
    ([]))
    ≡ (
      ((record { points = 0 ∷ []; ending = Answered (Opened 2) })
          ∷ (record { points = 1 ∷ []; ending = Stopped (Returned 0x6) })
          ∷ (record { points = 1 ∷ []; ending = Answered Closed })
          ∷ (record { points = 2 ∷ []; ending = Answered (Opened 3) })
          ∷ (record { points = 3 ∷ []; ending = Stopped (Returned 0x6) }) ∷ []) ∷ [],
      (record { thread = 1; line = 1; opens = true; image = 2 })
          ∷ (record { thread = 1; line = 3; opens = false; image = 2 })
          ∷ (record { thread = 1; line = 4; opens = true; image = 2 }) ∷ [],
    )
unfolding said
fresh_counter = refl

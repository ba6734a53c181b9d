-- A late module that a thread opens, calls, shows, closes and opens again; and one that is closed by another thread while a call in it waits.
use Rattle.std.proofs.Common.{◌≡◌, [], ◌∷◌, Some, true, false, refl}
use Rattle.std.specs.Prelude.{pos}
use Rattle.guest_operands.specs.declared.stop.Stop.TheVariants.{Returned}
use Rattle.image_faults.specs.declared.loader_kind.LoaderKind.TheVariants.{JumpSlot, Module}
use Rattle.image_file.specs.Spelled.{Spelled}
use Rattle.image_file.specs.declared.part.PartClass.TheVariants.{Executable, ReadOnly, Writable}
use Rattle.elf_records.specs.declared.symbol.SymbolBinding.TheVariants.{Local, Global}
use Rattle.elf_records.specs.declared.symbol.SymbolType.TheVariants.{NoType, Func, Tls}
use Rattle.elf_records.specs.declared.symbol.Visibility.TheVariants.{Default}
use Rattle.image_rules.specs.declared.places.FileKind.TheVariants.{Module as ModuleFile}
use Rattle.job_text.specs.declared.thread_lines.Action.TheVariants.{Call, Open, Close, Peek}
use Rattle.link_faults.specs.declared.image_kind.ImageKind.TheVariants.{Exe, Late}
use Rattle.transcript_text.specs.declared.outcomes.LineFault.TheVariants.{Unloaded}
use Rattle.transcript_text.specs.declared.outcomes.Outcome.TheVariants.{Opened, Closed, Bytes, Fault}
use Rattle.thread_blocks.specs.Turns.{Answered, Stopped}
use Rattle.thread_blocks.proofs.ExampleImages.{variable_app}
use Rattle.thread_blocks.proofs.JobRuns.{said, told}

-- ** a job whose thread opens a module twice: the second instance begins anew, under the id of the first

abbrev opened_again_plug : Spelled
opened_again_plug = record {
  kind = ModuleFile;
  parts = record {
    class = Executable;
    address = 0x0;
    bytes = 0x57 ∷ 0x66 ∷ 0x48 ∷ 0x8d ∷ 0x3d ∷ 0xf7 ∷ 0x1f ∷ 0x00 ∷ 0x00 ∷ 0x66 ∷ 0x66 ∷ 0x48 ∷ 0xe8 ∷ 0xef ∷ 0x2f
        ∷ 0x00 ∷ 0x00 ∷ 0x59 ∷ 0x89 ∷ 0x08 ∷ 0xc3 ∷ [];
  }
      ∷ record { class = ReadOnly; address = 0x1000; bytes = 0x05 ∷ 0x00 ∷ 0x00 ∷ 0x00 ∷ [] }
      ∷ record {
        class = Writable;
        address = 0x2000;
        bytes = 0x00 ∷ 0x00 ∷ 0x00 ∷ 0x00 ∷ 0x00 ∷ 0x00 ∷ 0x00 ∷ 0x00 ∷ 0x00 ∷ 0x00 ∷ 0x00 ∷ 0x00 ∷ 0x00 ∷ 0x00 ∷ 0x00
            ∷ 0x00 ∷ 0x00 ∷ 0x00 ∷ 0x00 ∷ 0x00 ∷ 0x00 ∷ 0x00 ∷ 0x00 ∷ 0x00 ∷ [];
      }
      ∷ record { class = Executable; address = 0x3000; bytes = 0xff ∷ 0x25 ∷ 0x0a ∷ 0xf0 ∷ 0xff ∷ 0xff ∷ [] }
      ∷ record { class = ReadOnly; address = 0x4000; bytes = [] }
      ∷ [];
  array_size = 0;
  got = Some 2;
  tls = Some (record { address = 4096; initial = 4; size = 8; alignment = 4 });
  symbols = record { binding = Local; kind = NoType; visibility = Default; is_defined = false; value = 0x0; size = 0 }
      ∷ record { binding = Global; kind = Func; visibility = Default; is_defined = true; value = 0x0; size = 21 }
      ∷ record { binding = Global; kind = Tls; visibility = Default; is_defined = true; value = 0x0; size = 4 }
      ∷ record { binding = Global; kind = NoType; visibility = Default; is_defined = false; value = 0x0; size = 0 }
      ∷ [];
  names = []
      ∷ (0x66 ∷ [])
      ∷ (0x76 ∷ [])
      ∷ (0x5f ∷ 0x5f ∷ 0x74 ∷ 0x6c ∷ 0x73 ∷ 0x5f ∷ 0x67 ∷ 0x65 ∷ 0x74 ∷ 0x5f ∷ 0x61 ∷ 0x64 ∷ 0x64 ∷ 0x72 ∷ [])
      ∷ [];
  relocations = record { place = 0x2000; kind = Module; symbol = 0; addend = pos 0 }
      ∷ record { place = 0x2010; kind = JumpSlot; symbol = 3; addend = pos 0 }
      ∷ [];
  is_flagged = false;
}

opened_again : told (said (Exe ∷ Late ∷ []) (variable_app ∷ opened_again_plug ∷ []) 4
    ((record { image = 2; action = Open } ∷ record { image = 2; action = Call (0x66 ∷ []) 7 0 0 }
    ∷ record { image = 2; action = Peek (0x76 ∷ []) 4 } ∷ record { image = 2; action = Close }
    ∷ record { image = 2; action = Open } ∷ record { image = 2; action = Peek (0x76 ∷ []) 4 } ∷ []) ∷ [])
    ([]))
    ≡ (
      ((record { points = 0 ∷ []; ending = Answered (Opened 2) })
          ∷ (record { points = 1 ∷ 1 ∷ []; ending = Stopped (Returned 0x10002000000) })
          ∷ (record { points = 1 ∷ []; ending = Answered (Bytes (0x07 ∷ 0x00 ∷ 0x00 ∷ 0x00 ∷ [])) })
          ∷ (record { points = 1 ∷ []; ending = Answered Closed })
          ∷ (record { points = 2 ∷ []; ending = Answered (Opened 3) })
          ∷ (record { points = 3 ∷ []; ending = Answered (Bytes (0x05 ∷ 0x00 ∷ 0x00 ∷ 0x00 ∷ [])) })
          ∷ []) ∷ [],
      (record { thread = 1; line = 1; opens = true; image = 2 })
          ∷ (record { thread = 1; line = 4; opens = false; image = 2 })
          ∷ (record { thread = 1; line = 5; opens = true; image = 2 }) ∷ [],
    )
unfolding said
opened_again = refl

-- ** thread 2 closes the module while a call of thread 1 waits for its block

abbrev unloaded_plug : Spelled
unloaded_plug = record {
  kind = ModuleFile;
  parts = record {
    class = Executable;
    address = 0x0;
    bytes = 0x66 ∷ 0x48 ∷ 0x8d ∷ 0x3d ∷ 0xf8 ∷ 0x1f ∷ 0x00 ∷ 0x00 ∷ 0x66 ∷ 0x66 ∷ 0x48 ∷ 0xe8 ∷ 0xf0 ∷ 0x2f ∷ 0x00
        ∷ 0x00 ∷ 0x66 ∷ 0x48 ∷ 0x8d ∷ 0x3d ∷ 0xe8 ∷ 0x1f ∷ 0x00 ∷ 0x00 ∷ 0x66 ∷ 0x66 ∷ 0x48 ∷ 0xe8 ∷ 0xe0 ∷ 0x2f
        ∷ 0x00 ∷ 0x00 ∷ 0xc3 ∷ [];
  }
      ∷ record { class = ReadOnly; address = 0x1000; bytes = 0x05 ∷ 0x00 ∷ 0x00 ∷ 0x00 ∷ [] }
      ∷ record {
        class = Writable;
        address = 0x2000;
        bytes = 0x00 ∷ 0x00 ∷ 0x00 ∷ 0x00 ∷ 0x00 ∷ 0x00 ∷ 0x00 ∷ 0x00 ∷ 0x00 ∷ 0x00 ∷ 0x00 ∷ 0x00 ∷ 0x00 ∷ 0x00 ∷ 0x00
            ∷ 0x00 ∷ 0x00 ∷ 0x00 ∷ 0x00 ∷ 0x00 ∷ 0x00 ∷ 0x00 ∷ 0x00 ∷ 0x00 ∷ [];
      }
      ∷ record { class = Executable; address = 0x3000; bytes = 0xff ∷ 0x25 ∷ 0x0a ∷ 0xf0 ∷ 0xff ∷ 0xff ∷ [] }
      ∷ record { class = ReadOnly; address = 0x4000; bytes = [] }
      ∷ [];
  array_size = 0;
  got = Some 2;
  tls = Some (record { address = 4096; initial = 4; size = 8; alignment = 4 });
  symbols = record { binding = Local; kind = NoType; visibility = Default; is_defined = false; value = 0x0; size = 0 }
      ∷ record { binding = Global; kind = Func; visibility = Default; is_defined = true; value = 0x0; size = 33 }
      ∷ record { binding = Global; kind = Tls; visibility = Default; is_defined = true; value = 0x0; size = 4 }
      ∷ record { binding = Global; kind = NoType; visibility = Default; is_defined = false; value = 0x0; size = 0 }
      ∷ [];
  names = []
      ∷ (0x66 ∷ [])
      ∷ (0x76 ∷ [])
      ∷ (0x5f ∷ 0x5f ∷ 0x74 ∷ 0x6c ∷ 0x73 ∷ 0x5f ∷ 0x67 ∷ 0x65 ∷ 0x74 ∷ 0x5f ∷ 0x61 ∷ 0x64 ∷ 0x64 ∷ 0x72 ∷ [])
      ∷ [];
  relocations = record { place = 0x2000; kind = Module; symbol = 0; addend = pos 0 }
      ∷ record { place = 0x2010; kind = JumpSlot; symbol = 3; addend = pos 0 }
      ∷ [];
  is_flagged = false;
}

unloaded : told (said (Exe ∷ Late ∷ []) (variable_app ∷ unloaded_plug ∷ []) 4
    ((record { image = 2; action = Open } ∷ record { image = 2; action = Call (0x66 ∷ []) 0 0 0 } ∷ [])
    ∷ (record { image = 2; action = Close } ∷ []) ∷ [])
    (1 ∷ 1 ∷ 1 ∷ 2 ∷ 1 ∷ []))
    ≡ (
      ((record { points = 0 ∷ []; ending = Answered (Opened 2) })
          ∷ (record { points = 1 ∷ 1 ∷ 2 ∷ []; ending = Answered (Fault Unloaded) }) ∷ [])
          ∷ ((record { points = 1 ∷ []; ending = Answered Closed }) ∷ []) ∷ [],
      (record { thread = 1; line = 1; opens = true; image = 2 })
          ∷ (record { thread = 2; line = 1; opens = false; image = 2 }) ∷ [],
    )
unfolding said
unloaded = refl

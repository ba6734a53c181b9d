-- Blocks at fixed distances from the thread pointer: of startup modules, of a program that may lie anywhere, and of the static surplus; and a descriptor.
use Rattle.std.proofs.Common.{◌≡◌, [], ◌∷◌, Some, None, true, false, refl}
use Rattle.std.specs.Prelude.{pos}
use Rattle.guest_operands.specs.declared.stop.Stop.TheVariants.{Returned, Address}
use Rattle.image_faults.specs.declared.loader_kind.LoaderKind.TheVariants.{ThreadOffset, Descriptor}
use Rattle.image_file.specs.Spelled.{Spelled}
use Rattle.image_file.specs.declared.part.PartClass.TheVariants.{Executable, ReadOnly, Writable}
use Rattle.elf_records.specs.declared.symbol.SymbolBinding.TheVariants.{Local, Global}
use Rattle.elf_records.specs.declared.symbol.SymbolType.TheVariants.{NoType, Func, Tls}
use Rattle.elf_records.specs.declared.symbol.Visibility.TheVariants.{Default}
use Rattle.image_rules.specs.declared.places.FileKind.TheVariants.{Exe as ExeFile, Pie as PieFile, Module as ModuleFile}
use Rattle.job_text.specs.declared.thread_lines.Action.TheVariants.{Call, Open, Close, Peek}
use Rattle.link_faults.specs.declared.image_kind.ImageKind.TheVariants.{Exe, Pie, Start, Late}
use Rattle.transcript_text.specs.declared.outcomes.Outcome.TheVariants.{Opened, Closed, Bytes}
use Rattle.thread_blocks.specs.Turns.{Answered, Stopped}
use Rattle.thread_blocks.proofs.ExampleImages.{variable_app}
use Rattle.thread_blocks.proofs.JobRuns.{said, told}

-- ** a program reads the distance of a startup module's variable

abbrev of_startup_app : Spelled
of_startup_app = record {
  kind = ExeFile;
  parts = record {
    class = Executable;
    address = 0x400000;
    bytes = 0x64 ∷ 0x48 ∷ 0x8b ∷ 0x04 ∷ 0x25 ∷ 0x00 ∷ 0x00 ∷ 0x00 ∷ 0x00 ∷ 0x48 ∷ 0x03 ∷ 0x05 ∷ 0xf0 ∷ 0x0f ∷ 0x00
        ∷ 0x00 ∷ 0xc3 ∷ [];
  }
      ∷ record {
        class = Writable;
        address = 0x401000;
        bytes = 0x00 ∷ 0x00 ∷ 0x00 ∷ 0x00 ∷ 0x00 ∷ 0x00 ∷ 0x00 ∷ 0x00 ∷ [];
      }
      ∷ record { class = ReadOnly; address = 0x402000; bytes = [] }
      ∷ [];
  array_size = 0;
  got = Some 1;
  tls = None;
  symbols = record { binding = Local; kind = NoType; visibility = Default; is_defined = false; value = 0x0; size = 0 }
      ∷ record { binding = Global; kind = Func; visibility = Default; is_defined = true; value = 0x400000; size = 17 }
      ∷ record { binding = Global; kind = Tls; visibility = Default; is_defined = false; value = 0x0; size = 0 }
      ∷ [];
  names = []
      ∷ (0x66 ∷ [])
      ∷ (0x78 ∷ [])
      ∷ [];
  relocations = record { place = 0x401000; kind = ThreadOffset; symbol = 2; addend = pos 0 }
      ∷ [];
  is_flagged = false;
}

abbrev of_startup_lib : Spelled
of_startup_lib = record {
  kind = ModuleFile;
  parts = record {
    class = ReadOnly;
    address = 0x0;
    bytes = 0x00 ∷ 0x00 ∷ 0x00 ∷ 0x00 ∷ 0x00 ∷ 0x00 ∷ 0x00 ∷ 0x00 ∷ 0x2a ∷ 0x00 ∷ 0x00 ∷ 0x00 ∷ 0x00 ∷ 0x00 ∷ 0x00
        ∷ 0x00 ∷ 0x00 ∷ 0x00 ∷ 0x00 ∷ 0x00 ∷ [];
  }
      ∷ record { class = ReadOnly; address = 0x1000; bytes = [] }
      ∷ [];
  array_size = 0;
  got = None;
  tls = Some (record { address = 0; initial = 20; size = 20; alignment = 8 });
  symbols = record { binding = Local; kind = NoType; visibility = Default; is_defined = false; value = 0x0; size = 0 }
      ∷ record { binding = Global; kind = Tls; visibility = Default; is_defined = true; value = 0x8; size = 4 }
      ∷ [];
  names = []
      ∷ (0x78 ∷ [])
      ∷ [];
  relocations = [];
  is_flagged = false;
}

of_startup : told (said (Exe ∷ Start ∷ []) (of_startup_app ∷ of_startup_lib ∷ []) 4
    ((record { image = 1; action = Call (0x66 ∷ []) 0 0 0 } ∷ []) ∷ [])
    ([]))
    ≡ (
      ((record { points = 0 ∷ []; ending = Stopped (Returned 0x13ffffffff0) }) ∷ []) ∷ [],
      [],
    )
unfolding said
of_startup = refl

-- ** a program that may lie anywhere

abbrev of_pie_app : Spelled
of_pie_app = record {
  kind = PieFile;
  parts = record {
    class = Executable;
    address = 0x0;
    bytes = 0x64 ∷ 0x48 ∷ 0x8b ∷ 0x04 ∷ 0x25 ∷ 0x00 ∷ 0x00 ∷ 0x00 ∷ 0x00 ∷ 0x48 ∷ 0x8d ∷ 0x80 ∷ 0xf0 ∷ 0xff ∷ 0xff
        ∷ 0xff ∷ 0xc3 ∷ [];
  }
      ∷ record {
        class = ReadOnly;
        address = 0x1000;
        bytes = 0x00 ∷ 0x00 ∷ 0x00 ∷ 0x00 ∷ 0x00 ∷ 0x00 ∷ 0x00 ∷ 0x00 ∷ 0x2a ∷ 0x00 ∷ 0x00 ∷ 0x00 ∷ 0x00 ∷ 0x00 ∷ 0x00
            ∷ 0x00 ∷ 0x00 ∷ 0x00 ∷ 0x00 ∷ 0x00 ∷ [];
      }
      ∷ record { class = ReadOnly; address = 0x2000; bytes = [] }
      ∷ [];
  array_size = 0;
  got = None;
  tls = Some (record { address = 4096; initial = 20; size = 20; alignment = 8 });
  symbols = record { binding = Local; kind = NoType; visibility = Default; is_defined = false; value = 0x0; size = 0 }
      ∷ record { binding = Global; kind = Func; visibility = Default; is_defined = true; value = 0x0; size = 17 }
      ∷ record { binding = Global; kind = Tls; visibility = Default; is_defined = true; value = 0x8; size = 4 }
      ∷ [];
  names = []
      ∷ (0x66 ∷ [])
      ∷ (0x78 ∷ [])
      ∷ [];
  relocations = [];
  is_flagged = false;
}

of_pie : told (said (Pie ∷ []) (of_pie_app ∷ []) 4
    ((record { image = 1; action = Call (0x66 ∷ []) 0 0 0 } ∷ []) ∷ [])
    ([]))
    ≡ (
      ((record { points = 0 ∷ []; ending = Stopped (Returned 0x13ffffffff0) }) ∷ []) ∷ [],
      [],
    )
unfolding said
of_pie = refl

-- ** a late module that wants its blocks at a fixed distance, loaded twice

abbrev of_surplus_plug : Spelled
of_surplus_plug = record {
  kind = ModuleFile;
  parts = record {
    class = Executable;
    address = 0x0;
    bytes = 0x48 ∷ 0x8b ∷ 0x05 ∷ 0xf9 ∷ 0x1f ∷ 0x00 ∷ 0x00 ∷ 0xc3 ∷ [];
  }
      ∷ record { class = ReadOnly; address = 0x1000; bytes = 0x05 ∷ 0x00 ∷ 0x00 ∷ 0x00 ∷ [] }
      ∷ record {
        class = Writable;
        address = 0x2000;
        bytes = 0x00 ∷ 0x00 ∷ 0x00 ∷ 0x00 ∷ 0x00 ∷ 0x00 ∷ 0x00 ∷ 0x00 ∷ [];
      }
      ∷ record { class = ReadOnly; address = 0x3000; bytes = [] }
      ∷ [];
  array_size = 0;
  got = Some 2;
  tls = Some (record { address = 4096; initial = 4; size = 8; alignment = 4 });
  symbols = record { binding = Local; kind = NoType; visibility = Default; is_defined = false; value = 0x0; size = 0 }
      ∷ record { binding = Global; kind = Func; visibility = Default; is_defined = true; value = 0x0; size = 8 }
      ∷ record { binding = Global; kind = Tls; visibility = Default; is_defined = true; value = 0x0; size = 4 }
      ∷ [];
  names = []
      ∷ (0x66 ∷ [])
      ∷ (0x76 ∷ [])
      ∷ [];
  relocations = record { place = 0x2000; kind = ThreadOffset; symbol = 0; addend = pos 0 }
      ∷ [];
  is_flagged = true;
}

of_surplus : told (said (Exe ∷ Late ∷ []) (variable_app ∷ of_surplus_plug ∷ []) 4
    ((record { image = 2; action = Open } ∷ record { image = 2; action = Call (0x66 ∷ []) 0 0 0 }
    ∷ record { image = 2; action = Peek (0x76 ∷ []) 8 } ∷ record { image = 2; action = Close }
    ∷ record { image = 2; action = Open } ∷ record { image = 2; action = Call (0x66 ∷ []) 0 0 0 } ∷ []) ∷ [])
    ([]))
    ≡ (
      ((record { points = 0 ∷ []; ending = Answered (Opened 2) })
          ∷ (record { points = 1 ∷ []; ending = Stopped (Returned 0xfffffffffffffff4) })
          ∷ (record {
            points = 1 ∷ [];
            ending = Answered (Bytes (0x05 ∷ 0x00 ∷ 0x00 ∷ 0x00 ∷ 0x00 ∷ 0x00 ∷ 0x00 ∷ 0x00 ∷ []));
          })
          ∷ (record { points = 1 ∷ []; ending = Answered Closed })
          ∷ (record { points = 2 ∷ []; ending = Answered (Opened 3) })
          ∷ (record { points = 3 ∷ []; ending = Stopped (Returned 0xffffffffffffffec) }) ∷ []) ∷ [],
      (record { thread = 1; line = 1; opens = true; image = 2 })
          ∷ (record { thread = 1; line = 4; opens = false; image = 2 })
          ∷ (record { thread = 1; line = 5; opens = true; image = 2 }) ∷ [],
    )
unfolding said
of_surplus = refl

-- ** a late module asks by a descriptor

abbrev by_descriptor_plug : Spelled
by_descriptor_plug = record {
  kind = ModuleFile;
  parts = record {
    class = Executable;
    address = 0x0;
    bytes = 0x48 ∷ 0x8d ∷ 0x05 ∷ 0xf9 ∷ 0x1f ∷ 0x00 ∷ 0x00 ∷ 0xff ∷ 0x10 ∷ 0xc3 ∷ [];
  }
      ∷ record {
        class = ReadOnly;
        address = 0x1000;
        bytes = 0x00 ∷ 0x00 ∷ 0x00 ∷ 0x00 ∷ 0x00 ∷ 0x00 ∷ 0x00 ∷ 0x00 ∷ 0x2a ∷ 0x00 ∷ 0x00 ∷ 0x00 ∷ 0x00 ∷ 0x00 ∷ 0x00
            ∷ 0x00 ∷ 0x00 ∷ 0x00 ∷ 0x00 ∷ 0x00 ∷ [];
      }
      ∷ record {
        class = Writable;
        address = 0x2000;
        bytes = 0x00 ∷ 0x00 ∷ 0x00 ∷ 0x00 ∷ 0x00 ∷ 0x00 ∷ 0x00 ∷ 0x00 ∷ 0x00 ∷ 0x00 ∷ 0x00 ∷ 0x00 ∷ 0x00 ∷ 0x00 ∷ 0x00
            ∷ 0x00 ∷ [];
      }
      ∷ record { class = ReadOnly; address = 0x3000; bytes = [] }
      ∷ [];
  array_size = 0;
  got = Some 2;
  tls = Some (record { address = 4096; initial = 20; size = 20; alignment = 8 });
  symbols = record { binding = Local; kind = NoType; visibility = Default; is_defined = false; value = 0x0; size = 0 }
      ∷ record { binding = Global; kind = Func; visibility = Default; is_defined = true; value = 0x0; size = 10 }
      ∷ record { binding = Global; kind = Tls; visibility = Default; is_defined = true; value = 0x8; size = 4 }
      ∷ [];
  names = []
      ∷ (0x66 ∷ [])
      ∷ (0x78 ∷ [])
      ∷ [];
  relocations = record { place = 0x2000; kind = Descriptor; symbol = 0; addend = pos 8 }
      ∷ [];
  is_flagged = false;
}

by_descriptor : told (said (Exe ∷ Late ∷ []) (variable_app ∷ by_descriptor_plug ∷ []) 4
    ((record { image = 2; action = Open } ∷ record { image = 2; action = Call (0x66 ∷ []) 0 0 0 } ∷ []) ∷ [])
    ([]))
    ≡ (
      ((record { points = 0 ∷ []; ending = Answered (Opened 2) })
          ∷ (record { points = 1 ∷ 1 ∷ []; ending = Stopped (Returned 0xffffffc002000008) }) ∷ []) ∷ [],
      (record { thread = 1; line = 1; opens = true; image = 2 }) ∷ [],
    )
unfolding said
by_descriptor = refl

-- ** code cannot be read, and the word at the thread pointer can

abbrev not_readable_app : Spelled
not_readable_app = record {
  kind = ExeFile;
  parts = record { class = Executable; address = 0x400000; bytes = 0x8b ∷ 0x07 ∷ 0xc3 ∷ [] }
      ∷ record { class = ReadOnly; address = 0x401000; bytes = [] }
      ∷ [];
  array_size = 0;
  got = None;
  tls = None;
  symbols = record { binding = Local; kind = NoType; visibility = Default; is_defined = false; value = 0x0; size = 0 }
      ∷ record { binding = Global; kind = Func; visibility = Default; is_defined = true; value = 0x400000; size = 3 }
      ∷ [];
  names = []
      ∷ (0x66 ∷ [])
      ∷ [];
  relocations = [];
  is_flagged = false;
}

not_readable : told (said (Exe ∷ []) (not_readable_app ∷ []) 4
    ((record { image = 1; action = Call (0x66 ∷ []) 4194304 0 0 }
    ∷ record { image = 1; action = Call (0x66 ∷ []) 1374389534720 0 0 } ∷ []) ∷ [])
    ([]))
    ≡ (
      ((record { points = 0 ∷ []; ending = Stopped (Address 0x400000) })
          ∷ (record { points = 0 ∷ []; ending = Stopped (Returned 0x0) }) ∷ []) ∷ [],
      [],
    )
unfolding said
not_readable = refl

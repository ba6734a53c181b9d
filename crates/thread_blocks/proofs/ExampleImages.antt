-- Images that several examples load, as this linker makes them of small objects.
use Rattle.std.proofs.Common.{[], ◌∷◌, Some, None, true, false}
use Rattle.image_file.specs.Spelled.{Spelled}
use Rattle.image_file.specs.declared.part.PartClass.TheVariants.{Executable, ReadOnly}
use Rattle.elf_records.specs.declared.symbol.SymbolBinding.TheVariants.{Local, Global}
use Rattle.elf_records.specs.declared.symbol.SymbolType.TheVariants.{NoType, Func, Tls}
use Rattle.elf_records.specs.declared.symbol.Visibility.TheVariants.{Default}
use Rattle.image_rules.specs.declared.places.FileKind.TheVariants.{Exe as ExeFile}

-- a program of one function, which reads its one thread-local variable, 42
abbrev pub variable_app : Spelled
variable_app = record {
  kind = ExeFile;
  parts = record {
    class = Executable;
    address = 0x400000;
    bytes = 0x64 ∷ 0x8b ∷ 0x04 ∷ 0x25 ∷ 0xfc ∷ 0xff ∷ 0xff ∷ 0xff ∷ 0xc3 ∷ [];
  }
      ∷ record { class = ReadOnly; address = 0x401000; bytes = 0x2a ∷ 0x00 ∷ 0x00 ∷ 0x00 ∷ [] }
      ∷ record { class = ReadOnly; address = 0x402000; bytes = [] }
      ∷ [];
  array_size = 0;
  got = None;
  tls = Some (record { address = 4198400; initial = 4; size = 4; alignment = 4 });
  symbols = record { binding = Local; kind = NoType; visibility = Default; is_defined = false; value = 0x0; size = 0 }
      ∷ record { binding = Global; kind = Func; visibility = Default; is_defined = true; value = 0x400000; size = 9 }
      ∷ record { binding = Global; kind = Tls; visibility = Default; is_defined = true; value = 0x0; size = 4 }
      ∷ [];
  names = []
      ∷ (0x66 ∷ [])
      ∷ (0x78 ∷ [])
      ∷ [];
  relocations = [];
  is_flagged = false;
}

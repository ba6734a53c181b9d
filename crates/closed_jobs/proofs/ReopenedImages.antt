-- The program and the late module that another thread closes: its images, as the linker writes them.
use Rattle.std.proofs.Common.{true, false, [], ◌∷◌, Some, None}
use Rattle.std.specs.Prelude.{codes, pos}
use Rattle.image_faults.specs.declared.loader_kind.LoaderKind.TheVariants.{JumpSlot, Module, ThreadOffset}
use Rattle.image_file.specs.Spelled.{Spelled}
use Rattle.image_file.specs.declared.part.PartClass.TheVariants.{Executable, ReadOnly, Writable}
use Rattle.elf_records.specs.declared.symbol.SymbolType.TheVariants.{NoType, Func, Tls}
use Rattle.image_rules.specs.declared.places.FileKind.TheVariants.{Exe as ExeFile, Module as ModuleFile}
use Rattle.closed_jobs.specs.Worlds.{file}
use Rattle.closed_jobs.proofs.Images.{defined, part, reserved, taken}

unfoldable pub program_rewritten : Spelled
unfolding file
program_rewritten = record {
  kind = ExeFile;
  parts = part Executable 0x400000 (codes "64488b042500000000488d80fcffffff8b00c3" ∷ [])
      ∷ part ReadOnly 0x401000 (codes "09000000" ∷ [])
      ∷ part ReadOnly 0x402000 (
      codes "040000000000000060204000000000000500000000000000a82040000000000006000000000000007820400000000000"
      ∷ codes "0a0000000000000003000000000000000b00000000000000180000000000000000000000000000000000000000000000"
      ∷ codes "010000000200000001000000000000000000000000000000000000000000000000000000000000000000000000000000"
      ∷ codes "010000001200010000004000000000001300000000000000006100" ∷ []) ∷ [];
  array_size = 96;
  got = None;
  tls = Some (record { address = 0x401000; initial = 4; size = 4; alignment = 4 });
  symbols = reserved ∷ defined Func 0x400000 19 ∷ [];
  names = codes "" ∷ codes "a" ∷ [];
  relocations = [];
  is_flagged = false;
}

unfoldable pub program_kept : Spelled
unfolding file
program_kept = record {
  kind = ExeFile;
  parts = part Executable 0x400000 (codes "66488d3df81f0000666648e8f02f00008b00c3" ∷ [])
      ∷ part ReadOnly 0x401000 (codes "09000000" ∷ [])
      ∷ part Writable 0x402000 (codes "010000000000000000000000000000000000000000000000" ∷ [])
      ∷ part Executable 0x403000 (codes "ff250af0ffff" ∷ [])
      ∷ part ReadOnly 0x404000 (
      codes "04000000000000009040400000000000050000000000000008414000000000000600000000000000a840400000000000"
      ∷ codes "0a0000000000000012000000000000000b0000000000000018000000000000000700000000000000f040400000000000"
      ∷ codes "080000000000000018000000000000000900000000000000180000000000000000000000000000000000000000000000"
      ∷ codes "010000000300000001000000000000000200000000000000000000000000000000000000000000000000000000000000"
      ∷ codes "010000001200010000004000000000001300000000000000030000001000000000000000000000000000000000000000"
      ∷ codes "1020400000000000070000000200000000000000000000000061005f5f746c735f6765745f6164647200" ∷ []) ∷ [];
  array_size = 144;
  got = Some 2;
  tls = Some (record { address = 0x401000; initial = 4; size = 4; alignment = 4 });
  symbols = reserved ∷ defined Func 0x400000 19 ∷ taken NoType ∷ [];
  names = codes "" ∷ codes "a" ∷ codes "__tls_get_addr" ∷ [];
  relocations = record { place = 0x402010; kind = JumpSlot; symbol = 2; addend = pos 0 }
      ∷ [];
  is_flagged = false;
}

unfoldable pub late_image : Spelled
unfolding file
late_image = record {
  kind = ModuleFile;
  parts = part Executable 0x0 (codes "66488d3df81f0000666648e8f02f00008b00c3488b05f61f0000c3" ∷ [])
      ∷ part ReadOnly 0x1000 (codes "05000000" ∷ [])
      ∷ part Writable 0x2000 (
      codes "0000000000000000000000000000000000000000000000000000000000000000" ∷ [])
      ∷ part Executable 0x3000 (codes "ff2512f0ffff" ∷ [])
      ∷ part ReadOnly 0x4000 (
      codes "0400000000000000a040000000000000050000000000000080410000000000000600000000000000c040000000000000"
      ∷ codes "0a0000000000000016000000000000000b00000000000000180000000000000007000000000000003841000000000000"
      ∷ codes "08000000000000004800000000000000090000000000000018000000000000001e000000000000001000000000000000"
      ∷ codes "000000000000000000000000000000000100000005000000010000000000000002000000030000000400000000000000"
      ∷ codes "000000000000000000000000000000000000000000000000010000001200010000000000000000001300000000000000"
      ∷ codes "030000001600010000000000000000000400000000000000050000001200010013000000000000000800000000000000"
      ∷ codes "070000001000000000000000000000000000000000000000002000000000000010000000000000000000000000000000"
      ∷ codes "102000000000000012000000000000000000000000000000182000000000000007000000040000000000000000000000"
      ∷ codes "006600760067005f5f746c735f6765745f6164647200" ∷ []) ∷ [];
  array_size = 160;
  got = Some 2;
  tls = Some (record { address = 0x1000; initial = 4; size = 4; alignment = 4 });
  symbols = reserved ∷ defined Func 0x0 19 ∷ defined Tls 0x0 4 ∷ defined Func 0x13 8 ∷ taken NoType ∷ [];
  names = codes "" ∷ codes "f" ∷ codes "v" ∷ codes "g" ∷ codes "__tls_get_addr" ∷ [];
  relocations = record { place = 0x2000; kind = Module; symbol = 0; addend = pos 0 }
      ∷ record { place = 0x2010; kind = ThreadOffset; symbol = 0; addend = pos 0 }
      ∷ record { place = 0x2018; kind = JumpSlot; symbol = 4; addend = pos 0 }
      ∷ [];
  is_flagged = true;
}

-- The program that reaches a variable in each way: its images, as the linker writes them.
use Rattle.std.proofs.Common.{false, [], ◌∷◌, Some}
use Rattle.std.specs.Prelude.{codes, pos}
use Rattle.image_faults.specs.declared.loader_kind.LoaderKind.TheVariants.{JumpSlot, Module, ModuleOffset, ThreadOffset}
use Rattle.image_faults.specs.declared.loader_kind.LoaderKind.TheVariants.{Descriptor}
use Rattle.image_file.specs.Spelled.{Spelled}
use Rattle.image_file.specs.declared.part.PartClass.TheVariants.{Executable, ReadOnly, Writable}
use Rattle.elf_records.specs.declared.symbol.SymbolType.TheVariants.{NoType, Func, Tls}
use Rattle.image_rules.specs.declared.places.FileKind.TheVariants.{Exe as ExeFile}
use Rattle.closed_jobs.specs.Worlds.{file}
use Rattle.closed_jobs.proofs.Images.{defined, part, reserved, taken}

unfoldable pub program_rewritten : Spelled
unfolding file
program_rewritten = record {
  kind = ExeFile;
  parts = part Executable 0x400000 (
      codes "64488b042500000000480305f01f00008b1864488b042500000000488d80fcffffff031889d8c36666666664488b0425"
      ∷ codes "000000008b98fcffffff48c7c1fcffffff64031989d8c3488b05b21f00006690648b18644c8b2425000000004981c4fc"
      ∷ codes "ffffff41031c2489d8c3" ∷ [])
      ∷ part ReadOnly 0x401000 (codes "0300000006000000" ∷ [])
      ∷ part Writable 0x402000 (codes "0000000000000000" ∷ [])
      ∷ part ReadOnly 0x403000 (
      codes "04000000000000009030400000000000050000000000000040314000000000000600000000000000b030400000000000"
      ∷ codes "0a0000000000000009000000000000000b00000000000000180000000000000007000000000000002831400000000000"
      ∷ codes "080000000000000018000000000000000900000000000000180000000000000000000000000000000000000000000000"
      ∷ codes "010000000500000001000000000000000200000003000000040000000000000000000000000000000000000000000000"
      ∷ codes "000000000000000001000000120001000000400000000000000000000000000003000000120001002700400000000000"
      ∷ codes "000000000000000005000000120001004700400000000000000000000000000007000000160000000000000000000000"
      ∷ codes "0000000000000000002040000000000012000000040000000000000000000000006100620063007800" ∷ []) ∷ [];
  array_size = 144;
  got = Some 2;
  tls = Some (record { address = 0x401000; initial = 8; size = 8; alignment = 4 });
  symbols = reserved ∷ defined Func 0x400000 0 ∷ defined Func 0x400027 0 ∷ defined Func 0x400047 0 ∷ taken Tls ∷ [];
  names = codes "" ∷ codes "a" ∷ codes "b" ∷ codes "c" ∷ codes "x" ∷ [];
  relocations = record { place = 0x402000; kind = ThreadOffset; symbol = 4; addend = pos 0 }
      ∷ [];
  is_flagged = false;
}

unfoldable pub program_kept : Spelled
unfolding file
program_kept = record {
  kind = ExeFile;
  parts = part Executable 0x400000 (
      codes "66488d3d08200000666648e8f02f00008b1866488d3d062000006648ff1526200000031889d8c3488d3dd21f0000ff15"
      ∷ codes "142000008b9804000000488b0dff1f000064031989d8c3488d05e21f0000ff10648b18644c8b2425000000004c0325dd"
      ∷ codes "1f000041031c2489d8c3" ∷ [])
      ∷ part ReadOnly 0x401000 (codes "0300000006000000" ∷ [])
      ∷ part Writable 0x402000 (
      codes "010000000000000000000000000000000000000000000000000000000000000001000000000000000400000000000000"
      ∷ codes "00000000000000000000000000000000fcffffffffffffff0000000000000000" ∷ [])
      ∷ part Executable 0x403000 (codes "ff2542f0ffff" ∷ [])
      ∷ part ReadOnly 0x404000 (
      codes "040000000000000090404000000000000500000000000000a8414000000000000600000000000000b840400000000000"
      ∷ codes "0a0000000000000018000000000000000b00000000000000180000000000000007000000000000004841400000000000"
      ∷ codes "080000000000000060000000000000000900000000000000180000000000000000000000000000000000000000000000"
      ∷ codes "010000000600000001000000000000000200000003000000040000000500000000000000000000000000000000000000"
      ∷ codes "000000000000000000000000000000000100000012000100000040000000000000000000000000000300000012000100"
      ∷ codes "270040000000000000000000000000000500000012000100470040000000000000000000000000000700000016000000"
      ∷ codes "000000000000000000000000000000000900000010000000000000000000000000000000000000001020400000000000"
      ∷ codes "100000000400000000000000000000001820400000000000110000000400000000000000000000003020400000000000"
      ∷ codes "240000000400000000000000000000004820400000000000070000000500000000000000000000000061006200630078"
      ∷ codes "005f5f746c735f6765745f6164647200" ∷ []) ∷ [];
  array_size = 144;
  got = Some 2;
  tls = Some (record { address = 0x401000; initial = 8; size = 8; alignment = 4 });
  symbols = reserved ∷ defined Func 0x400000 0 ∷ defined Func 0x400027 0 ∷ defined Func 0x400047 0 ∷ taken Tls
      ∷ taken NoType ∷ [];
  names = codes "" ∷ codes "a" ∷ codes "b" ∷ codes "c" ∷ codes "x" ∷ codes "__tls_get_addr" ∷ [];
  relocations = record { place = 0x402010; kind = Module; symbol = 4; addend = pos 0 }
      ∷ record { place = 0x402018; kind = ModuleOffset; symbol = 4; addend = pos 0 }
      ∷ record { place = 0x402030; kind = Descriptor; symbol = 4; addend = pos 0 }
      ∷ record { place = 0x402048; kind = JumpSlot; symbol = 5; addend = pos 0 }
      ∷ [];
  is_flagged = false;
}

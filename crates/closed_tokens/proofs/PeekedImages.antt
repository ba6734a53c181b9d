-- The program whose variables lines show: its images, as the linker writes them.
use Rattle.std.proofs.Common.{false, [], ◌∷◌, Some, None}
use Rattle.std.specs.Prelude.{codes, pos}
use Rattle.image_faults.specs.declared.loader_kind.LoaderKind.TheVariants.{JumpSlot, Descriptor}
use Rattle.image_file.specs.Spelled.{Spelled}
use Rattle.image_file.specs.declared.part.PartClass.TheVariants.{Executable, ReadOnly, Writable}
use Rattle.elf_records.specs.declared.symbol.SymbolType.TheVariants.{NoType, Func, Tls}
use Rattle.image_rules.specs.declared.places.FileKind.TheVariants.{Exe as ExeFile}
use Rattle.closed_jobs.specs.Worlds.{file}
use Rattle.closed_jobs.proofs.Images.{defined, part, reserved, taken}

unfoldable pub program_rewritten : Spelled
unfolding file
program_rewritten = record {
  kind = ExeFile;
  parts = part Executable 0x400000 (
      codes "48c7c0f0ffffff64830001c348c7c0f0ffffff48c7c1f0ffffff6448890166666664488b042500000000488980f8ffff"
      ∷ codes "ffb801000000c3" ∷ [])
      ∷ part ReadOnly 0x401000 (codes "01020304050607080000000000000000" ∷ [])
      ∷ part ReadOnly 0x402000 (
      codes "040000000000000060204000000000000500000000000000e02040000000000006000000000000008020400000000000"
      ∷ codes "0a0000000000000007000000000000000b00000000000000180000000000000000000000000000000000000000000000"
      ∷ codes "010000000400000001000000000000000200000003000000000000000000000000000000000000000000000000000000"
      ∷ codes "000000000000000001000000120001000000400000000000000000000000000003000000160001000000000000000000"
      ∷ codes "000000000000000005000000120001000c00400000000000000000000000000000660076006700" ∷ []) ∷ [];
  array_size = 96;
  got = None;
  tls = Some (record { address = 0x401000; initial = 16; size = 16; alignment = 8 });
  symbols = reserved ∷ defined Func 0x400000 0 ∷ defined Tls 0x0 0 ∷ defined Func 0x40000c 0 ∷ [];
  names = codes "" ∷ codes "f" ∷ codes "v" ∷ codes "g" ∷ [];
  relocations = [];
  is_flagged = false;
}

unfoldable pub program_kept : Spelled
unfolding file
program_kept = record {
  kind = ExeFile;
  parts = part Executable 0x400000 (
      codes "488b051920000064830001c3488d05fd1f0000488b0d0620000064488901488d3ddb1f0000e8d62f0000488980080000"
      ∷ codes "00b801000000c3" ∷ [])
      ∷ part ReadOnly 0x401000 (codes "01020304050607080000000000000000" ∷ [])
      ∷ part Writable 0x402000 (
      codes "0100000000000000000000000000000000000000000000000000000000000000f0ffffffffffffff0000000000000000" ∷ [])
      ∷ part Executable 0x403000 (codes "ff2522f0ffff" ∷ [])
      ∷ part ReadOnly 0x404000 (
      codes "04000000000000009040400000000000050000000000000058414000000000000600000000000000b040400000000000"
      ∷ codes "0a0000000000000016000000000000000b00000000000000180000000000000007000000000000002841400000000000"
      ∷ codes "080000000000000030000000000000000900000000000000180000000000000000000000000000000000000000000000"
      ∷ codes "010000000500000001000000000000000200000003000000040000000000000000000000000000000000000000000000"
      ∷ codes "000000000000000001000000120001000000400000000000000000000000000003000000160001000000000000000000"
      ∷ codes "000000000000000005000000120001000c00400000000000000000000000000007000000100000000000000000000000"
      ∷ codes "000000000000000010204000000000002400000000000000000000000000000028204000000000000700000004000000"
      ∷ codes "0000000000000000006600760067005f5f746c735f6765745f6164647200" ∷ []) ∷ [];
  array_size = 144;
  got = Some 2;
  tls = Some (record { address = 0x401000; initial = 16; size = 16; alignment = 8 });
  symbols = reserved ∷ defined Func 0x400000 0 ∷ defined Tls 0x0 0 ∷ defined Func 0x40000c 0 ∷ taken NoType ∷ [];
  names = codes "" ∷ codes "f" ∷ codes "v" ∷ codes "g" ∷ codes "__tls_get_addr" ∷ [];
  relocations = record { place = 0x402010; kind = Descriptor; symbol = 0; addend = pos 0 }
      ∷ record { place = 0x402028; kind = JumpSlot; symbol = 4; addend = pos 0 } ∷ [];
  is_flagged = false;
}

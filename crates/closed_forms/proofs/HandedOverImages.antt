-- The program of three threads: its images, as the linker writes them.
use Rattle.std.proofs.Common.{false, [], ◌∷◌, Some}
use Rattle.std.specs.Prelude.{codes, pos}
use Rattle.image_faults.specs.declared.loader_kind.LoaderKind.TheVariants.{JumpSlot, Relative, ThreadOffset, Descriptor}
use Rattle.image_file.specs.Spelled.{Spelled}
use Rattle.image_file.specs.declared.part.PartClass.TheVariants.{Executable, ReadOnly, Writable}
use Rattle.elf_records.specs.declared.symbol.SymbolType.TheVariants.{NoType, Func, Tls}
use Rattle.image_rules.specs.declared.places.FileKind.TheVariants.{Pie as PieFile}
use Rattle.closed_jobs.specs.Worlds.{file}
use Rattle.closed_jobs.proofs.Images.{defined, part, reserved, taken}

unfoldable pub program_rewritten : Spelled
unfolding file
program_rewritten = record {
  kind = PieFile;
  parts = part Executable 0x0 (
      codes "488b05f93f0000488905fa2f000066666664488b042500000000488905df2f00008b80fcffffffc3488b05d12f00008b"
      ∷ codes "80fcffffffc3488b05cb2f00006690c3488b1dc13f0000ff15c33f00000303c348b800100000000000008b00c3" ∷ [])
      ∷ part ReadOnly 0x1000 (codes "08000000" ∷ [])
      ∷ part ReadOnly 0x2000 (codes "0300000006000000" ∷ [])
      ∷ part Writable 0x3000 (codes "00000000000000000000000000000000" ∷ [])
      ∷ part Writable 0x4000 (codes "000000000000000000100000000000005000000000000000" ∷ [])
      ∷ part ReadOnly 0x5000 (
      codes "0400000000000000a0500000000000000500000000000000d0510000000000000600000000000000c850000000000000"
      ∷ codes "0a000000000000000d000000000000000b00000000000000180000000000000007000000000000007051000000000000"
      ∷ codes "0800000000000000600000000000000009000000000000001800000000000000fbffff6f000000000000000800000000"
      ∷ codes "000000000000000000000000000000000100000007000000010000000000000002000000030000000400000005000000"
      ∷ codes "060000000000000000000000000000000000000000000000000000000000000001000000120001000000000000000000"
      ∷ codes "000000000000000003000000120001002800000000000000000000000000000005000000120001003600000000000000"
      ∷ codes "000000000000000007000000120001004000000000000000000000000000000009000000120001005000000000000000"
      ∷ codes "00000000000000000b000000160000000000000000000000000000000000000052000000000000000800000000000000"
      ∷ codes "001000000000000000400000000000001200000006000000000000000000000008400000000000000800000000000000"
      ∷ codes "001000000000000010400000000000000800000000000000500000000000000000700074007300670068007800" ∷ []) ∷ [];
  array_size = 160;
  got = Some 4;
  tls = Some (record { address = 0x2000; initial = 8; size = 8; alignment = 4 });
  symbols = reserved ∷ defined Func 0x0 0 ∷ defined Func 0x28 0 ∷ defined Func 0x36 0 ∷ defined Func 0x40 0
      ∷ defined Func 0x50 0 ∷ taken Tls ∷ [];
  names = codes "" ∷ codes "p" ∷ codes "t" ∷ codes "s" ∷ codes "g" ∷ codes "h" ∷ codes "x" ∷ [];
  relocations = record { place = 0x52; kind = Relative; symbol = 0; addend = pos 4096 }
      ∷ record { place = 0x4000; kind = ThreadOffset; symbol = 6; addend = pos 0 }
      ∷ record { place = 0x4008; kind = Relative; symbol = 0; addend = pos 4096 }
      ∷ record { place = 0x4010; kind = Relative; symbol = 0; addend = pos 80 }
      ∷ [];
  is_flagged = false;
}

unfoldable pub program_kept : Spelled
unfolding file
program_kept = record {
  kind = PieFile;
  parts = part Executable 0x0 (
      codes "488d0509400000488905fa2f0000488d3deb3f0000e8e64f0000488905df2f00008b8004000000c3488b05d12f00008b"
      ∷ codes "8004000000c3488b05cb2f0000ff10c3488b1dd93f0000ff15db3f00000303c348b800100000000000008b00c3" ∷ [])
      ∷ part ReadOnly 0x1000 (codes "08000000" ∷ [])
      ∷ part ReadOnly 0x2000 (codes "0300000006000000" ∷ [])
      ∷ part Writable 0x3000 (codes "00000000000000000000000000000000" ∷ [])
      ∷ part Writable 0x4000 (
      codes "010000000000000000000000000000000000000000000000000000000000000000100000000000005000000000000000"
      ∷ codes "0000000000000000" ∷ [])
      ∷ part Executable 0x5000 (codes "ff252af0ffff" ∷ [])
      ∷ part ReadOnly 0x6000 (
      codes "0400000000000000a060000000000000050000000000000008620000000000000600000000000000d060000000000000"
      ∷ codes "0a000000000000001c000000000000000b00000000000000180000000000000007000000000000009061000000000000"
      ∷ codes "0800000000000000780000000000000009000000000000001800000000000000fbffff6f000000000000000800000000"
      ∷ codes "000000000000000000000000000000000100000008000000010000000000000002000000030000000400000005000000"
      ∷ codes "060000000700000000000000000000000000000000000000000000000000000000000000000000000100000012000100"
      ∷ codes "000000000000000000000000000000000300000012000100280000000000000000000000000000000500000012000100"
      ∷ codes "360000000000000000000000000000000700000012000100400000000000000000000000000000000900000012000100"
      ∷ codes "500000000000000000000000000000000b00000016000000000000000000000000000000000000000d00000010000000"
      ∷ codes "000000000000000000000000000000005200000000000000080000000000000000100000000000001040000000000000"
      ∷ codes "240000000600000000000000000000002040000000000000080000000000000000100000000000002840000000000000"
      ∷ codes "080000000000000050000000000000003040000000000000070000000700000000000000000000000070007400730067"
      ∷ codes "00680078005f5f746c735f6765745f6164647200" ∷ []) ∷ [];
  array_size = 160;
  got = Some 4;
  tls = Some (record { address = 0x2000; initial = 8; size = 8; alignment = 4 });
  symbols = reserved ∷ defined Func 0x0 0 ∷ defined Func 0x28 0 ∷ defined Func 0x36 0 ∷ defined Func 0x40 0
      ∷ defined Func 0x50 0 ∷ taken Tls ∷ taken NoType ∷ [];
  names = codes "" ∷ codes "p" ∷ codes "t" ∷ codes "s" ∷ codes "g" ∷ codes "h" ∷ codes "x" ∷ codes "__tls_get_addr"
      ∷ [];
  relocations = record { place = 0x52; kind = Relative; symbol = 0; addend = pos 4096 }
      ∷ record { place = 0x4010; kind = Descriptor; symbol = 6; addend = pos 0 }
      ∷ record { place = 0x4020; kind = Relative; symbol = 0; addend = pos 4096 }
      ∷ record { place = 0x4028; kind = Relative; symbol = 0; addend = pos 80 }
      ∷ record { place = 0x4030; kind = JumpSlot; symbol = 7; addend = pos 0 }
      ∷ [];
  is_flagged = false;
}

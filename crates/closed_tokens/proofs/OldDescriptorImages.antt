-- The program that keeps a descriptor and the late module that makes it: their images, as the linker writes them in
-- both settings.
use Rattle.std.proofs.Common.{false, [], ◌∷◌, Some, None}
use Rattle.std.specs.Prelude.{codes, pos}
use Rattle.image_faults.specs.declared.loader_kind.LoaderKind.TheVariants.{Descriptor}
use Rattle.image_file.specs.Spelled.{Spelled}
use Rattle.image_file.specs.declared.part.PartClass.TheVariants.{Executable, ReadOnly, Writable}
use Rattle.elf_records.specs.declared.symbol.SymbolType.TheVariants.{Func, Tls}
use Rattle.image_rules.specs.declared.places.FileKind.TheVariants.{Exe as ExeFile, Module as ModuleFile}
use Rattle.closed_jobs.specs.Worlds.{file}
use Rattle.closed_jobs.proofs.Images.{defined, part, reserved}

unfoldable pub program_image : Spelled
unfolding file
program_image = record {
  kind = ExeFile;
  parts = part Executable 0x400000 (codes "488b0df90f000048890dfa0f000031c0c3" ∷ [])
      ∷ part Writable 0x401000 (codes "00000000000000000000000000000000" ∷ [])
      ∷ part ReadOnly 0x402000 (
      codes "040000000000000060204000000000000500000000000000a82040000000000006000000000000007820400000000000"
      ∷ codes "0a0000000000000003000000000000000b00000000000000180000000000000000000000000000000000000000000000"
      ∷ codes "010000000200000001000000000000000000000000000000000000000000000000000000000000000000000000000000"
      ∷ codes "010000001200010000004000000000000000000000000000006100" ∷ []) ∷ [];
  array_size = 96;
  got = None;
  tls = None;
  symbols = reserved ∷ defined Func 0x400000 0 ∷ [];
  names = codes "" ∷ codes "a" ∷ [];
  relocations = [];
  is_flagged = false;
}

unfoldable pub late_image : Spelled
unfolding file
late_image = record {
  kind = ModuleFile;
  parts = part Executable 0x0 (codes "488d05f91f0000488907ff10c3488b07ff10c3" ∷ [])
      ∷ part ReadOnly 0x1000 (codes "0700000005000000" ∷ [])
      ∷ part Writable 0x2000 (codes "00000000000000000000000000000000" ∷ [])
      ∷ part ReadOnly 0x3000 (
      codes "04000000000000009030000000000000050000000000000028310000000000000600000000000000b030000000000000"
      ∷ codes "0a0000000000000007000000000000000b00000000000000180000000000000007000000000000001031000000000000"
      ∷ codes "080000000000000018000000000000000900000000000000180000000000000000000000000000000000000000000000"
      ∷ codes "010000000400000001000000000000000200000003000000000000000000000000000000000000000000000000000000"
      ∷ codes "000000000000000001000000120001000000000000000000000000000000000003000000160001000400000000000000"
      ∷ codes "000000000000000005000000120001000d00000000000000000000000000000000200000000000002400000000000000"
      ∷ codes "040000000000000000660076006700" ∷ []) ∷ [];
  array_size = 144;
  got = Some 2;
  tls = Some (record { address = 0x1000; initial = 8; size = 8; alignment = 4 });
  symbols = reserved ∷ defined Func 0x0 0 ∷ defined Tls 0x4 0 ∷ defined Func 0xd 0 ∷ [];
  names = codes "" ∷ codes "f" ∷ codes "v" ∷ codes "g" ∷ [];
  relocations = record { place = 0x2000; kind = Descriptor; symbol = 0; addend = pos 4 } ∷ [];
  is_flagged = false;
}

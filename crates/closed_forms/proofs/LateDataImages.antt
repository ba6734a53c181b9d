-- The program and the late module that has data: their images, as the linker writes them in both settings.
use Rattle.std.proofs.Common.{false, [], ◌∷◌, None}
use Rattle.std.specs.Prelude.{codes}
use Rattle.image_file.specs.Spelled.{Spelled}
use Rattle.image_file.specs.declared.part.PartClass.TheVariants.{Executable, ReadOnly, Writable}
use Rattle.elf_records.specs.declared.symbol.SymbolType.TheVariants.{Func}
use Rattle.image_rules.specs.declared.places.FileKind.TheVariants.{Exe as ExeFile, Module as ModuleFile}
use Rattle.closed_jobs.specs.Worlds.{file}
use Rattle.closed_jobs.proofs.Images.{defined, part, reserved}

unfoldable pub program_image : Spelled
unfolding file
program_image = record {
  kind = ExeFile;
  parts = part Executable 0x400000 (codes "c3" ∷ [])
      ∷ part ReadOnly 0x401000 (
      codes "040000000000000060104000000000000500000000000000a81040000000000006000000000000007810400000000000"
      ∷ codes "0a0000000000000003000000000000000b00000000000000180000000000000000000000000000000000000000000000"
      ∷ codes "010000000200000001000000000000000000000000000000000000000000000000000000000000000000000000000000"
      ∷ codes "010000001200010000004000000000000000000000000000006100" ∷ []) ∷ [];
  array_size = 96;
  got = None;
  tls = None;
  symbols = reserved ∷ defined Func 0x400000 0 ∷ [];
  names = codes "" ∷ codes "a" ∷ [];
  relocations = [];
  is_flagged = false;
}

unfoldable pub late_image : Spelled
unfolding file
late_image = record {
  kind = ModuleFile;
  parts = part Executable 0x0 (codes "8305f90f0000018b05f30f0000c3" ∷ [])
      ∷ part Writable 0x1000 (codes "05000000" ∷ [])
      ∷ part ReadOnly 0x2000 (
      codes "040000000000000060200000000000000500000000000000a82000000000000006000000000000007820000000000000"
      ∷ codes "0a0000000000000003000000000000000b00000000000000180000000000000000000000000000000000000000000000"
      ∷ codes "010000000200000001000000000000000000000000000000000000000000000000000000000000000000000000000000"
      ∷ codes "010000001200010000000000000000000000000000000000006300" ∷ []) ∷ [];
  array_size = 96;
  got = None;
  tls = None;
  symbols = reserved ∷ defined Func 0x0 0 ∷ [];
  names = codes "" ∷ codes "c" ∷ [];
  relocations = [];
  is_flagged = false;
}

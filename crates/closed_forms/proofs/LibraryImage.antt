-- The library that both jobs have: its image, as the linker writes it in both settings.
use Rattle.std.proofs.Common.{false, [], ◌∷◌, Some, None}
use Rattle.std.specs.Prelude.{codes}
use Rattle.image_file.specs.Spelled.{Spelled}
use Rattle.image_file.specs.declared.part.PartClass.TheVariants.{ReadOnly}
use Rattle.elf_records.specs.declared.symbol.SymbolType.TheVariants.{Tls}
use Rattle.image_rules.specs.declared.places.FileKind.TheVariants.{Module as ModuleFile}
use Rattle.closed_jobs.specs.Worlds.{file}
use Rattle.closed_jobs.proofs.Images.{defined, part, reserved}

unfoldable pub library_image : Spelled
unfolding file
library_image = record {
  kind = ModuleFile;
  parts = part ReadOnly 0x0 (codes "0100000007000000" ∷ [])
      ∷ part ReadOnly 0x1000 (
      codes "040000000000000060100000000000000500000000000000a81000000000000006000000000000007810000000000000"
      ∷ codes "0a0000000000000003000000000000000b00000000000000180000000000000000000000000000000000000000000000"
      ∷ codes "010000000200000001000000000000000000000000000000000000000000000000000000000000000000000000000000"
      ∷ codes "010000001600010004000000000000000400000000000000007800" ∷ []) ∷ [];
  array_size = 96;
  got = None;
  tls = Some (record { address = 0x0; initial = 8; size = 8; alignment = 4 });
  symbols = reserved ∷ defined Tls 0x4 4 ∷ [];
  names = codes "" ∷ codes "x" ∷ [];
  relocations = [];
  is_flagged = false;
}

-- If objects are lists of bytes, what is loaded is bytes.
use Rattle.std.specs.Prelude.{◌<◌, ℕ, List}
use Rattle.std.specs.List.{All}
use Rattle.elf_records.specs.FieldLaws.{AreBytes}
use Rattle.link_needs.specs.Linking.{Linking}
use Rattle.object_faults.specs.declared.class.SectionClass.{SectionClass}
use Rattle.loaded_bytes.specs.Bytes.{byte_at}

-- at each address of each class
abbrev pub BytesAreSmall : Type 0
BytesAreSmall = (l : Linking) (bias : ℕ) (class : SectionClass) (address : ℕ) → All AreBytes l.objects
    → byte_at l bias class address < 256

-- The words for the choices of an image.
use Rattle.std.specs.Prelude.{ℕ, List, codes}
use Rattle.image_rules.specs.declared.places.FileKind.{FileKind}
use Rattle.image_rules.specs.declared.places.FileKind.TheVariants.{Exe, Pie, Module}
use Rattle.image_file.specs.declared.part.PartClass.{PartClass}
use Rattle.image_file.specs.declared.part.PartClass.TheVariants.{Executable, ReadOnly, Writable}

-- the kind of an image
abbrev pub kind_word : FileKind → List ℕ
kind_word Exe = codes "exe"
kind_word Pie = codes "pie"
kind_word Module = codes "module"

-- what may be done with a part
abbrev pub class_word : PartClass → List ℕ
class_word Executable = codes "x"
class_word ReadOnly = codes "r"
class_word Writable = codes "rw"

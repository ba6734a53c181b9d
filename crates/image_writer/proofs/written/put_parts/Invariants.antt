use Rattle.std.proofs.Common.{◌≡◌, take}
use Rattle.elf_records.specs.Fields.{splice}
use Rattle.image_writer.specs.Page.{base_of}
use Rattle.image_writer.specs.Written.{laid}
use Rattle.image_writer.proofs.Laying.{reach}
use Rattle.image_writer.proofs.written.put_parts.Given as goal

abbrev pub invariant-loop-number : goal.invariant-loop-number
invariant-loop-number l =
    (l.out ≡ splice l.at (laid (base_of l.image.kind) (take l.number l.image.parts)) l.fn.out)
    × (l.end ≡ reach (base_of l.image.kind) (take l.number l.image.parts))

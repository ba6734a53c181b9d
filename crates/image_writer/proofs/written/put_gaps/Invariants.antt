use Rattle.std.proofs.Common.{◌≡◌, map, take}
use Rattle.elf_records.specs.Fields.{splice}
use Rattle.image_writer.specs.Contents.{part_in}
use Rattle.image_writer.specs.Page.{base_of}
use Rattle.image_writer.specs.Written.{laid}
use Rattle.image_writer.proofs.Laying.{reach}
use Rattle.image_writer.proofs.written.put_gaps.Given as goal

abbrev pub invariant-loop-part : goal.invariant-loop-part
invariant-loop-part l =
    (l.out ≡ splice 4096 (laid (base_of l.outline.kind)
    (take l.part-index (map (part_in l.outline.kind l.fn.out) l.outline.parts.now))) l.fn.out)
    × (l.end ≡ reach (base_of l.outline.kind)
    (take l.part-index (map (part_in l.outline.kind l.fn.out) l.outline.parts.now)))

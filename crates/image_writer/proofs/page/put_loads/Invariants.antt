use Rattle.std.proofs.Common.{◌≡◌, take}
use Rattle.std.specs.List.{flat_map}
use Rattle.elf_records.specs.Fields.{splice}
use Rattle.elf_records.specs.Records.{segment_bytes}
use Rattle.image_writer.specs.declared.outline.PartPlace.{PartPlace}
use Rattle.image_writer.specs.Page.{load_header}
use Rattle.image_writer.proofs.page.put_loads.Given as goal

abbrev pub invariant-loop-number : goal.invariant-loop-number
invariant-loop-number l =
    l.out ≡ splice l.at
    (flat_map (λ (p : PartPlace). segment_bytes (load_header l.outline.kind p))
    (take l.number l.outline.parts.now)) l.fn.out

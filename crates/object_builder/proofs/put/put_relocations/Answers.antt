use Rattle.std.proofs.Common.{◌<◌, length, arith, refl, ◌∙◌}
use Rattle.elf_records.specs.Records.{rela_bytes}
use Rattle.object_builder.proofs.Records.{one_more, whole_rela}
use Rattle.object_builder.proofs.put.put_relocations.Goals as goal

pub loop-relocation-preserved : goal.loop-relocation-preserved
loop-relocation-preserved c =
    let inside : c.loop-relocation.relocation-index < length c.args.relocations.now = omega arith in
    one_more rela_bytes _ _ _ _ c.args.relocations.now c.loop-relocation.relocation-index _ inside c.loop-relocation.invariant
    c.in_ok-extend_from_slice.ensures.items (c.write_rela.ensures.bytes ∙ whole_rela _ _ refl)

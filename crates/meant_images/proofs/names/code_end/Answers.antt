use Rattle.std.proofs.Common.{◌≤◌, ◌^◌, subst, sym}
use Rattle.object_faults.specs.declared.class.SectionClass.TheVariants.{Executable}
use Rattle.tls_layout.specs.declared.extent.Extent.{Extent}
use Rattle.memory_image.proofs.Laid.{extent_low}
use Rattle.meant_images.proofs.names.code_end.Goals as goal

pub returns-clause-low : goal.returns-clause-low
returns-clause-low c =
    subst (λ (e : Extent). e.end ≤ 2 ^ 25) (sym c.executable.ensures.extent)
    (extent_low Executable c.inputs.inside.placement c.executable.ensures.lawful)

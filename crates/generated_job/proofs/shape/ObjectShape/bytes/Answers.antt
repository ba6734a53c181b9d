use Rattle.std.proofs.Common.{refl, ◌∙◌}
use Rattle.generated_job.specs.Drafts.{shape_held}
use Rattle.generated_job.specs.Shapes.{file_header, section_names}
use Rattle.generated_job.proofs.Parts.{file_known}
use Rattle.generated_job.proofs.shape.ObjectShape.bytes.Goals as goal

pub returns : goal.returns
unfolding file_header section_names
returns c =
    file_known (shape_held c.args.self.now) _ _ _ _ _ _ _ _ _ _ _ _ _ _ c.new-bytes.ensures.items c.in_ok-put_header.ensures
    c.in_ok-put_sections.ensures c.in_ok-extend_from_slice.ensures.items c.in_ok-extend_from_slice-2.ensures.items
    c.in_ok-put_symbols.ensures c.in_ok-extend_from_slice-3.ensures.items c.in_ok-extend_from_slice-4.ensures.items
    c.in_ok-put_relocations.ensures c.object_header.ensures c.sections-sections.ensures
    (c.as_slice-3.ensures.value ∙ c.in_ok-symbols.ensures)
    (c.as_slice-4.ensures.value ∙ c.in_ok-names.ensures) refl

use Rattle.std.proofs.Common.{sym, ap, subst, ◌∙◌}
use Rattle.elf_records.specs.Fields.{bytes_of}
use Rattle.generated_job.specs.Accesses.{calls_of, code_of, entries_of}
use Rattle.generated_job.specs.Drafts.{IsShort}
use Rattle.generated_job.specs.Shapes.{object_bytes}
use Rattle.generated_job.proofs.Objects.{pair_known, shape_made, with_short}
use Rattle.generated_job.proofs.files.program_object.Goals as goal

pub bytes-requires : goal.bytes-requires
unfolding bytes_of
bytes-requires c =
    subst IsShort
    (sym (shape_made c.args.number c.args.value _ _ _ _ _ _ (c.as_bytes.ensures.value ∙ c.in_ok-function.ensures)
    (c.as_bytes-2.ensures.value ∙ c.in_ok-variable.ensures)
    (c.code.ensures.code ∙ ap code_of c.of_object-access.ensures)
    (c.as_slice.ensures.value ∙ c.in_ok-relocations.ensures.entries
    ∙ ap entries_of c.of_object-access.ensures) c.to_le_bytes.ensures
    (c.calls.ensures ∙ ap calls_of c.of_object-access.ensures)))
    (with_short c.args.number c.args.value c.requires)

pub returns : goal.returns
unfolding bytes_of
returns c =
    pair_known _ _ _ _ c.in_ok-object_name.ensures (c.in_ok-content.ensures
    ∙ ap object_bytes (shape_made c.args.number c.args.value _ _ _ _ _ _
    (c.as_bytes.ensures.value ∙ c.in_ok-function.ensures)
    (c.as_bytes-2.ensures.value ∙ c.in_ok-variable.ensures)
    (c.code.ensures.code ∙ ap code_of c.of_object-access.ensures)
    (c.as_slice.ensures.value ∙ c.in_ok-relocations.ensures.entries
    ∙ ap entries_of c.of_object-access.ensures) c.to_le_bytes.ensures
    (c.calls.ensures ∙ ap calls_of c.of_object-access.ensures)))

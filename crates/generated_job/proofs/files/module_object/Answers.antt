use Rattle.std.proofs.Common.{sym, ap, subst, ◌∙◌}
use Rattle.generated_job.specs.Drafts.{IsShort}
use Rattle.generated_job.specs.Shapes.{object_bytes}
use Rattle.generated_job.proofs.Objects.{module_made, module_short, pair_known}
use Rattle.generated_job.proofs.files.module_object.Goals as goal

pub bytes-requires : goal.bytes-requires
bytes-requires c =
    subst IsShort
    (sym (module_made _ _ _ c.code.ensures.code
    (c.as_slice.ensures.value ∙ c.in_ok-relocations.ensures.entries) c.calls.ensures))
    module_short

pub returns : goal.returns
returns c =
    pair_known _ _ _ _ c.in_ok-from_str.ensures.ok (c.in_ok-content.ensures
    ∙ ap object_bytes (module_made _ _ _ c.code.ensures.code
    (c.as_slice.ensures.value ∙ c.in_ok-relocations.ensures.entries) c.calls.ensures))

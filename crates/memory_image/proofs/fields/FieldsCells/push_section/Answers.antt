use Rattle.std.proofs.Common.{◌∙◌, ◌++◌, List, ℕ, ap, subst}
use Rattle.elf_object.specs.Faults.{IsObject}
use Rattle.memory_image.proofs.fields.FieldsCells.push_section.Goals as goal

pub filled-requires-clause-is_object : goal.filled-requires-clause-is_object
filled-requires-clause-is_object c = subst (λ (x : List ℕ). IsObject x) c.object.ensures c.section.ensures.object

pub returns : goal.returns
returns c =
    c.in_ok-extend_from_slice.ensures.items
    ∙ ap (λ xs. c.args.table.now.items ++ xs) (c.as_slice.ensures.value ∙ c.in_ok-own.ensures)

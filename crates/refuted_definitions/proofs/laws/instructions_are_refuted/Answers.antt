use Rattle.refuted_definitions.proofs.InstructionCases.{instructions_refuted}
use Rattle.refuted_definitions.proofs.laws.instructions_are_refuted.Goals as goal

pub returns : goal.returns
returns c = instructions_refuted c.words_are_signed.ensures c.computations_are_the_manuals.ensures
    c.products_are_the_manuals.ensures c.shifts_are_the_manuals.ensures c.flags_change.ensures
    c.conditions_are_the_manuals.ensures

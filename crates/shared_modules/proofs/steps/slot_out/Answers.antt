-- The slot in hand is the one that is read.
use Rattle.std.proofs.Common.{◌∷◌, Some, sym, ap, ◌∙◌}
use Rattle.atomic_table.specs.Table.{rest}
use Rattle.shared_modules.proofs.steps.slot_out.Goals as goal

pub exchange-requires : goal.exchange-requires
exchange-requires c = let there = c.requires.there in
    (c.requires.table, (Some there.0, there.1 ∙ ap (λ cs. (0, Some there.0) ∷ rest cs) (sym there.1)))

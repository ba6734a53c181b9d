use Rattle.std.proofs.Common.{rules, tests}
use Rattle.std.proofs.lemmas.Iterator.Consumers.{YieldsList-from_first}
use Rattle.std.proofs.lemmas.Iterator.Search.{any_from_yields_List}
use Rattle.sequence_match.specs.Finding.{is_use}
use Rattle.sequence_match.proofs.finding.has_use.Goals as goal

pub returns : goal.returns
returns c =
    any_from_yields_List (is_use c.args.getters.now) _ _ _ c.any.ensures.ran
    (YieldsList-from_first (λ x. x) (λ s. s) _ c.relocs.ensures.relocations) (λ x b q k. search (rules, tests))

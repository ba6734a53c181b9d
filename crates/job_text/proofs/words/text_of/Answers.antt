use Rattle.std.proofs.Common.{◌≡◌, true, sym, ◌∙◌}
use Rattle.job_text.specs.Words.{is_text}
use Rattle.job_text.proofs.WordLemmas.{ok_where, text_is_utf8}
use Rattle.job_text.proofs.words.text_of.Goals as goal

pub returns-then-is_text-clause-found : goal.returns-then-is_text-clause-found
returns-then-is_text-clause-found c =
    let tested : is_text c.args.line.now ≡ true = sym c.is_text.ensures ∙ c.if-is_text.true in
    c.ok.ensures.variant ∙ ok_where _ _ _ c.from_utf8.result c.from_utf8.ensures.cases
    (text_is_utf8 c.args.line.now tested) ∙ sym tested

-- What is asked of the lent words is asked of their bytes.
use Rattle.std.proofs.Common.{not, sym, ap, ◌∙◌}
use Rattle.std.specs.List.{list_any}
use Rattle.job_text.specs.Grammar.{is_short_name}
use Rattle.job_text.proofs.WordLemmas.{list_any-map}
use Rattle.job_text.proofs.operands.has_long_object.Goals as goal

pub returns : goal.returns
returns c =
    c.has_long.ensures
    ∙ sym (list_any-map (λ word. word.now) (λ word. not (is_short_name word)) c.objects.result.now)
    ∙ ap (list_any (λ word. not (is_short_name word))) c.objects.ensures

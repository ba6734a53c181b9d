use Rattle.std.proofs.Common.{lit<, rules, Ok, ap, ◌∙◌}
use Rattle.std.proofs.lemmas.Iterator.Consumers.{map_from_collect, YieldsList-from_filter}
use Rattle.std.proofs.lemmas.Iterator.Splits.{YieldsList-from_str_split}
use Rattle.std.specs.Str.Iter.{split_text, split_has_more, split_pattern}
use Rattle.std.specs.declared.alloc.AllocError.{AllocError}
use borrow.Author.Tests.{tests}
use Rattle.job_text.specs.Words.{has_bytes, words_of}
use Rattle.job_text.proofs.words.Words.of.Goals as goal

pub returns : goal.returns
unfolding words_of
returns c =
    map_from_collect {E = AllocError} (Ok c.in_ok-items.items) c.in_ok-items.ensures.ran
    (YieldsList-from_filter _ has_bytes
    (YieldsList-from_str_split 32 c.args.line.now (lit< tt)
    (ap split_text c.filter.ensures.source ∙ c.split.ensures.text)
    (ap split_has_more c.filter.ensures.source ∙ c.split.ensures.has_more)
    (ap split_pattern c.filter.ensures.source ∙ c.split.ensures.pattern)) c.filter.ensures.closure
    (λ x r q k. search (rules, tests)))

use Rattle.std.proofs.Common.{rules}
use Rattle.std.proofs.lemmas.List.Elements.{All-cons, All-nil}
use Rattle.job_text.specs.Drafts.{slot_among}
use Rattle.job_text.proofs.MentionLemmas.{nothing_listed}
use Rattle.job_text.proofs.draft.Draft.new.Goals as goal

pub invariant_of-result : goal.invariant_of-result
unfolding slot_among
invariant_of-result c = record {
  within = search rules;
  slots = λ q. search rules;
  plans = search (rules, All-cons, All-nil);
  order_named = λ order e. cc;
  mentioned = nothing_listed _ _ _ (search rules) (search rules) (search rules);
}

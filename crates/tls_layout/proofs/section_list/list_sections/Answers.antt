use Rattle.std.proofs.Common.{◌+◌, length, take, ap, ◌∙◌, arith}
use Rattle.std.proofs.lemmas.List.{length_push}
use Rattle.std.proofs.lemmas.List.Elements.{All-append}
use Rattle.tls_layout.specs.Sections.{all_sections, IsOrdinary}
use Rattle.tls_layout.proofs.Rounds.{numbers_more}
use Rattle.tls_layout.proofs.Listed.{all_none, all_sections-more, section_counts-more, is_list}
use Rattle.tls_layout.proofs.section_list.list_sections.Goals as goal

pub loop-object-init : goal.loop-object-init
loop-object-init c = record {
  sections_are = c.new-sections.ensures.items ∙ (all_none c.args.objects.now).0;
  counts_are = c.new-counts.ensures.items ∙ (all_none c.args.objects.now).1;
  ordinary = rw c.new-sections.ensures.items (λ k d l. absurd (omega arith));
  len = ap length c.new-firsts.ensures.items;
  firsts_are = λ o h. absurd (omega arith);
}

pub loop-object-preserved : goal.loop-object-preserved
loop-object-preserved c =
    let is = c.loop-object.invariant in
    record {
      sections_are = all_sections-more _ _ c.object-item.result _ _ c.loop-object-test.true c.object-item.is is.sections_are c.in_ok-push_sections.ensures.pushed;
      counts_are = rw (c.in_ok-push-2.ensures.items, c.section_count.ensures.count)
          (section_counts-more _ _ c.object-item.result _ c.loop-object-test.true c.object-item.is is.counts_are);
      ordinary = rw c.in_ok-push_sections.ensures.pushed
          (All-append IsOrdinary _ _ is.ordinary c.in_ok-push_sections.ensures.ordinary);
      len = rw c.in_ok-push.ensures.items (length_push _ _ ∙ ap (λ n. n + 1) is.len);
      firsts_are = rw c.in_ok-push.ensures.items
          (numbers_more _ _ _ (λ o. length (all_sections (take o c.args.objects.now))) is.len is.firsts_are
          (c.len.ensures ∙ (c.loop-object.sections.ok.0 ∙ ap length is.sections_are)));
    }

pub returns : goal.returns
returns c =
    let is = c.loop-object.invariant in
    is_list _ _ c.loop-object.object-index (omega arith) is.sections_are is.counts_are is.ordinary is.len is.firsts_are

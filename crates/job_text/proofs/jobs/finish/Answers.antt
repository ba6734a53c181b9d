use Rattle.std.proofs.Common.{◌≡◌, arith, length, map, sym, ap, ◌∙◌}
use Rattle.std.proofs.lemmas.Simd.{map-map}
use Rattle.job_text.specs.Jobs.{job_declared, numbered_line}
use Rattle.job_text.proofs.JobLemmas.{made_job, is_job}
use Rattle.job_text.proofs.jobs.finish.Goals as goal

pub invariant_of-result : goal.invariant_of-result
invariant_of-result c =
    let count : c.len-count.result ≡ length c.draft.inside.starts.items = omega arith in
    let mentions = rw count at c.in_ok-mentions.ensures in
    let lines = rw count at
    (c.in_ok-lines.ensures ∙ sym
    (map-map (map (numbered_line c.len-count.result)) (λ lines. lines.items) c.draft.inside.lines.items)) in
    is_job c.draft.inside.names _ c.in-Some.program c.in_ok-images.images.items c.in_ok-mentions.mentions.items c.unwrap_or.result c.order_or_none.result.items (map (λ lines. lines.items) c.in_ok-lines.lines.items)
    c.draft.invariant c.in-Some.is c.in_ok-images.ensures mentions c.unwrap_or.ensures c.order_or_none.ensures lines

pub returns : goal.returns
returns c =
    let count : c.len-count.result ≡ length c.draft.inside.starts.items = omega arith in
    let mentions = rw count at c.in_ok-mentions.ensures in
    let lines = rw count at
    (c.in_ok-lines.ensures ∙ sym
    (map-map (map (numbered_line c.len-count.result)) (λ lines. lines.items) c.draft.inside.lines.items)) in
    ap job_declared (sym c.draft.view_is)
    ∙ made_job _ c.in-Some.program c.in_ok-images.images.items c.in_ok-mentions.mentions.items c.unwrap_or.result c.order_or_none.result.items (map (λ lines. lines.items) c.in_ok-lines.lines.items) c.in-Some.is
    c.in_ok-images.ensures mentions c.unwrap_or.ensures c.order_or_none.ensures lines

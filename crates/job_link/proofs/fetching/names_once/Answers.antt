use Rattle.std.proofs.Common.{◌∙◌, ◌<◌, [], ap, arith, length, sym, take, take_all}
use Rattle.job_link.specs.Walks.{names_in, texts, unseen}
use Rattle.job_link.proofs.Unseen.{names_more, object_names_are, seen_next}
use Rattle.job_link.proofs.fetching.names_once.Goals as goal

pub loop-number-preserved : goal.loop-number-preserved
loop-number-preserved c =
    let job = c.args.job.now in
    let items = c.mentions-number-items.result.now in
    let i = c.loop-number.number-index in
    let image = c.image.result.now in
    let inside : i < length items = omega arith in
    record {
      items = c.loop-number.invariant.items;
      so_far =
          seen_next [] (texts c.loop-number.names.keys) (texts c.add_names.new.names.keys) (names_in job (take i items))
          image.objects c.loop-number.invariant.so_far c.in_ok-add_names.ensures
          ∙ ap (unseen []) (sym (names_more job items i image inside c.image.ensures));
    }

pub returns : goal.returns
returns c =
    let job = c.args.job.now in
    let items = c.mentions-number-items.result.now in
    c.loop-number.invariant.so_far
    ∙ ap (λ numbers. unseen [] (names_in job numbers))
    (take_all c.loop-number.number-index items c.loop-number-test.false ∙ c.loop-number.invariant.items)
    ∙ sym (object_names_are job)

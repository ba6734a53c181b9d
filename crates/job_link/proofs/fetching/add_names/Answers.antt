use Rattle.std.proofs.Common.{◌≡◌, ◌∙◌, ◌<◌, [], ◌∷◌, ◌++◌, ap, arith, get_or, length, sym, take}
use Rattle.std.proofs.lemmas.List.{get_or_read}
use Rattle.job_link.specs.Walks.{texts, unseen}
use Rattle.job_link.proofs.Unseen.{inserted, one_more, seen_next}
use Rattle.job_link.proofs.fetching.add_names.Goals as goal

pub loop-object-preserved : goal.loop-object-preserved
loop-object-preserved c =
    let items = c.as_slice-object-items.result.now in
    let i = c.loop-object.object-index in
    let name = c.as_str.result.now in
    let seen = texts c.args.names.now.keys in
    let inside : i < length items = omega arith in
    let is : name ≡ get_or items i name = c.as_str.ensures
    ∙ get_or_read items i c.object-item.result inside c.object-item.is name in
    record {
      items = c.loop-object.invariant.items;
      so_far =
          seen_next seen (texts c.loop-object.names.keys) (texts c.insert.new.self.keys) (take i items) (name ∷ [])
          c.loop-object.invariant.so_far
          (ap texts c.in_ok-insert.ensures.keys ∙ inserted c.loop-object.names.keys c.as_str.result)
          ∙ ap (λ ns. seen ++ unseen seen ns) (sym (one_more items i name is inside));
    }

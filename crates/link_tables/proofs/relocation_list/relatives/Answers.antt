use Rattle.std.proofs.Common.{◌≡◌, ◌∙◌, ap, arith, map, rules}
use Rattle.std.proofs.lemmas.List.{take_all}
use Rattle.image_file.specs.declared.relocation.ImageRelocation.{ImageRelocation}
use Rattle.link_needs.specs.NeedLaws.{absolutes}
use Rattle.link_tables.specs.Dynamic.{relative_of}
use Rattle.link_tables.proofs.ListedFields.{are_relatives}
use Rattle.link_needs.proofs.SortingLaws.{sorted_by_key}
use Rattle.link_tables.proofs.relocation_list.relatives.Goals as goal

pub returns : goal.returns
returns c =
    let l = c.args.plan.now in
    let fields = c.deref-field-items.result.now in
    let all = c.loop-field.all.items in
    let sorted = c.sort_by_key.new.self.items in
    let listed : fields ≡ absolutes l =
    c.deref-field-items.ensures.value ∙ c.plan.invariant.absolutes_are ∙ ap absolutes c.plan.view_is in
    are_relatives l all sorted
    (c.loop-field.invariant
    ∙ ap (map (relative_of l))
    (take_all c.loop-field.field-index fields (omega (arith, c.loop-field-test.false)) ∙ listed))
    (sorted_by_key (λ (r : ImageRelocation). r.place) all sorted
    c.in_ok-sort_by_key.ensures.sorted c.in_ok-sort_by_key.ensures.stable (λ a r q k. search rules))

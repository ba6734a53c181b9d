use Rattle.std.proofs.Common.{◌≡◌, ◌∙◌, ap, subst, sym}
use Rattle.memory_image.specs.Tables.{Keeps}
use Rattle.link_needs.specs.Linking.{Linking}
use Rattle.thread_blocks.specs.Turns.{at_number}
use Rattle.whole_meaning.specs.Spots.{bias_of}
use Rattle.meant_images.specs.Images.{AreTables}
use Rattle.whole_meaning.specs.Loads.{data_ranges}
use Rattle.meant_images.proofs.Ready.{found_at, keeps_at, ok_as, shared_is, some_of}
use Rattle.meant_images.proofs.images.MeantImages.fresh_data.Goals as goal

pub returns-in-Some-tables : goal.returns-in-Some-tables
returns-in-Some-tables c =
    let ls = c.args.self.now in
    let x = c.args.instance.now in
    let l = c.in-Some.own.now in
    let at = found_at (λ own. own.now) c.image.result
    (at_number ls x.image) c.in-Some.own c.image.ensures c.in-Some.is in
    let t = some_of (λ t. AreTables ls l t.now) c.tables.result c.in-Some-tables.tables c.in-Some-tables.is
    (c.tables.ensures.each l at) in
    let same : c.bias_of.result ≡ bias_of l.kind x.number =
    c.bias_of.ensures.bias ∙ ap (λ (own : Linking). bias_of own.kind x.number) c.own.view_is in
    let keeps = subst (Keeps l) (sym same)
    (keeps_at ls x l at c.linked_instances_keep_fields.ensures c.tables.ensures.sound) in
    ok_as _ _ c.data_in.result
    (λ range is. is l t.writable_is keeps ∙ (ap (data_ranges l) same ∙ shared_is ls x l at))
    c.data_in.ensures

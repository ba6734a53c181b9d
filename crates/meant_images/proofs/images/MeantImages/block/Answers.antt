use Rattle.std.proofs.Common.{◌≡◌, ◌∙◌, ap, subst, sym}
use Rattle.std.specs.Prelude.{true}
use Rattle.object_faults.specs.declared.class.SectionClass.TheVariants.{Tls}
use Rattle.memory_image.specs.Tables.{IsClass, Keeps}
use Rattle.link_needs.specs.Linking.{Linking, layout}
use Rattle.tls_layout.specs.Places.{tls_size}
use Rattle.tls_layout.specs.Sections.{Layout}
use Rattle.thread_blocks.specs.Turns.{at_number}
use Rattle.whole_meaning.specs.Spots.{bias_of}
use Rattle.meant_images.specs.Images.{AreTables}
use Rattle.std.proofs.Common.{map}
use Rattle.job_meaning.specs.declared.values.Byte.TheVariants.{Value}
use Rattle.whole_meaning.specs.Bytes.{block_bytes}
use Rattle.meant_images.proofs.Ready.{block_is, found_at, keeps_at, ok_as, some_of}
use Rattle.meant_images.proofs.images.MeantImages.block.Goals as goal

pub returns-in-Some-tables : goal.returns-in-Some-tables
returns-in-Some-tables c =
    let ls = c.args.self.now in
    let x = c.args.instance.now in
    let l = c.in-Some.own.now in
    let at = found_at (λ own. own.now) c.image.result
    (at_number ls x.image) c.in-Some.own c.image.ensures c.in-Some.is in
    let t = some_of (λ t. AreTables ls l t.now) c.tables.result c.in-Some-tables.tables c.in-Some-tables.is
    (c.tables.ensures.each l at) in
    let same : c.bias_of-bias.result ≡ bias_of l.kind x.number =
    c.bias_of-bias.ensures.bias ∙ ap (λ (own : Linking). bias_of own.kind x.number) c.own.view_is in
    let keeps = subst (Keeps l) (sym same)
    (keeps_at ls x l at c.linked_instances_keep_fields.ensures c.tables.ensures.sound) in
    let size =
    c.tls_size-size.ensures.size
    ∙ (ap (λ (p : Layout). tls_size p.sections) c.own.invariant.placed
    ∙ ap (λ (own : Linking). tls_size (layout own).sections) c.own.view_is) in
    ok_as _ _ c.block_of.result
    (λ block is. is l (subst (IsClass l (Tls true)) (sym c.initial.ensures) t.still_are.initial_is) keeps size
    ∙ (ap (λ b. map Value (block_bytes l b)) same ∙ block_is ls x l at))
    c.block_of.ensures

-- The list that is walked is that of the live instances.
use Rattle.std.proofs.Common.{◌∙◌, ap, sym}
use Rattle.guest_operands.specs.Ranges.{byte_in}
use Rattle.thread_blocks.specs.Instances.{fixed_of}
use Rattle.whole_meaning.specs.Loads.{loads_of}
use Rattle.marked_memory.specs.Kept.{Kept}
use Rattle.guest_operands.proofs.Sought.{each_hit, each_miss}
use Rattle.marked_memory.proofs.space.MarkedMemory.fixed_byte.Goals as goal

pub loop-instance-init : goal.loop-instance-init
loop-instance-init c =
    ap (λ xs. byte_in c.args.access (fixed_of (loads_of c.args.self.now.images) xs) c.args.place)
    (ap (λ (k : Kept). k.live) (sym c.self.view_is) ∙ sym c.deref-instance-items.ensures.value)

pub returns-in-Some : goal.returns-in-Some
returns-in-Some c =
    each_hit c.args.access c.args.place (loads_of c.args.self.now.images).fixed c.deref-instance-items.result.now
    c.loop-instance.instance-index _ c.in-Some.byte _ c.loop-instance.invariant c.loop-instance-test.true
    (sym c.loaded_byte.ensures ∙ c.in-Some.is)

pub loop-instance-preserved : goal.loop-instance-preserved
loop-instance-preserved c =
    each_miss c.args.access c.args.place (loads_of c.args.self.now.images).fixed c.deref-instance-items.result.now
    c.loop-instance.instance-index _ _ c.loop-instance.invariant c.loop-instance-test.true
    (sym c.loaded_byte.ensures ∙ c.in_default.is)

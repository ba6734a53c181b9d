-- Instance by instance.
use Rattle.std.proofs.Common.{sym, subst}
use Rattle.std.specs.Prelude.{option_to_list}
use Rattle.whole_meaning.specs.Loads.{loads_of}
use Rattle.marked_memory.specs.Spaces.{HaveOwnNumbers, fills}
use Rattle.marked_memory.proofs.Takes.{one_data}
use Rattle.marked_memory.proofs.space.MarkedMemory.shared_after.Goals as goal

pub loop-instance-preserved : goal.loop-instance-preserved
loop-instance-preserved c =
    rw c.in_ok-push_some.ensures
    (one_data (loads_of c.args.self.now.images) (fills c.args.wanted) _ c.loop-instance.shared.items
    (option_to_list c.in_ok-made.made)
    c.loop-instance.pool c.data_after.new.pool c.deref-instance-items.result.now c.loop-instance.instance-index _
    (subst HaveOwnNumbers (sym c.deref-instance-items.ensures.value) c.self.invariant.numbers) c.loop-instance-test.true
    c.in_ok-made.ensures.shared c.data_after.ensures.others c.loop-instance.invariant)

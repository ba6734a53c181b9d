-- Instance by instance.
use Rattle.std.proofs.Common.{◌∙◌, sym, subst}
use Rattle.std.specs.Prelude.{option_to_list}
use Rattle.whole_meaning.specs.Loads.{loads_of}
use Rattle.marked_memory.specs.Spaces.{HaveOwnNumbers, reaches}
use Rattle.marked_memory.proofs.Takes.{data_stays, one_block}
use Rattle.marked_memory.proofs.space.MarkedMemory.blocks_after.Goals as goal

pub loop-instance-preserved : goal.loop-instance-preserved
loop-instance-preserved c = (
  rw c.in_ok-push_some.ensures
      (one_block (loads_of c.args.self.now.images) c.args.self.now.thread
      (reaches c.args.wanted) _ c.loop-instance.blocks.items (option_to_list c.in_ok-block.block)
      c.loop-instance.pool c.block_after.new.pool c.deref-instance-items.result.now c.loop-instance.instance-index _
      (subst HaveOwnNumbers (sym c.deref-instance-items.ensures.value) c.self.invariant.numbers) c.loop-instance-test.true
      c.in_ok-block.ensures.block c.block_after.ensures.others c.loop-instance.invariant.0),
  λ number. data_stays _ number c.loop-instance.pool c.block_after.new.pool c.block_after.ensures.others
      ∙ c.loop-instance.invariant.1 number,
)

-- A block is as long as its image says.
use Rattle.thread_vector.proofs.Lending.{held_length}
use Rattle.thread_vector.proofs.dtv.Dtv.has_block.Goals as goal

pub returns-clause-long : goal.returns-clause-long
returns-clause-long c = λ bytes e. held_length c.args.self.now c.args.instance bytes c.blocks_fit.ensures e

-- Only what is fixed can be run.
use Rattle.std.proofs.Common.{◌∙◌, sym}
use Rattle.thread_space.proofs.ReadKept.{run_is}
use Rattle.thread_space.proofs.bytes.ThreadSpaceBytesPlain.run.Goals as goal

pub returns : goal.returns
returns c = c.fixed_byte.ensures ∙ sym (run_is c.args.self.now c.args.place)

-- What has a module id is live.
use Rattle.std.proofs.Common.{◌∙◌, sym}
use Rattle.thread_vector.proofs.Stepping.{instance_live}
use Rattle.thread_vector.proofs.dtv.Dtv.address.Goals as goal

pub reach-requires : goal.reach-requires
reach-requires c =
    instance_live c.args.self.now c.args.id c.in-Some.instance c.blocks_fit.ensures
    (sym c.instance_of.ensures ∙ c.in-Some.is)

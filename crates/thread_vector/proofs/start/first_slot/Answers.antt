-- The block is as long as its image says.
use Rattle.std.proofs.Common.{◌∙◌, sym, ap}
use Rattle.thread_vector.specs.Starting.{startup_info}
use Rattle.thread_vector.proofs.First.{startup_size}
use Rattle.thread_vector.proofs.start.first_slot.Goals as goal

pub fresh-requires : goal.fresh-requires
fresh-requires c = startup_size c.args.modules.now c.args.image c.in-Some.info c.requires
    (ap (λ i. startup_info i c.args.image) (sym c.infos.ensures.value) ∙ sym c.startup_info.ensures ∙ c.in-Some.is)

use Rattle.std.proofs.Common.{◌∙◌, sym, ap, subst}
use Rattle.thread_blocks.specs.Instances.{instances_in}
use Rattle.job_check.specs.Histories.{infos_of}
use Rattle.marked_memory.specs.Spaces.{HaveOwnNumbers}
use Rattle.job_check.proofs.Listed.{live_apart}
use Rattle.job_check.proofs.live.see.Goals as goal

pub hold-requires : goal.hold-requires
hold-requires c =
    let items = c.in_ok-live.ensures ∙ ap (λ ls. instances_in (infos_of ls) c.args.table.now) c.images.ensures in
    subst HaveOwnNumbers (sym items) (live_apart c.args.space.now.images c.args.table.now c.requires)

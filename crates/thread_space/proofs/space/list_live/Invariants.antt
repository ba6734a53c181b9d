-- What is listed and what is left to be listed are all.
use Rattle.std.proofs.Common.{◌≡◌, ◌≤◌, ◌++◌, drop, vec_len, vec_capacity}
use Rattle.loaded_modules.specs.Images.{infos}
use Rattle.thread_blocks.specs.Instances.{instances_from}
use Rattle.thread_space.specs.Kept.{live_in}
use Rattle.thread_space.proofs.space.list_live.Given as goal

abbrev pub invariant-loop-image : goal.invariant-loop-image
invariant-loop-image l =
    (live_in l.dtv.images l.dtv.past ≡ l.live.items
    ++ instances_from (infos l.dtv.images) l.image (drop l.image l.dtv.past.modules))
    × (vec_len l.live ≤ l.image)
    × (65 ≤ vec_capacity l.live)

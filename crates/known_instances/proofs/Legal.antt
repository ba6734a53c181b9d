-- A history of a job's images is legal where each event was accepted.
use Rattle.std.proofs.Common.{◌≡◌, ◌<◌, ◌≤◌, ◌^◌, ◌*◌, ◌+◌, true, List, length, subst, arith}
use Rattle.std.proofs.Math.Seq.{take-length}
use Rattle.loaded_modules.specs.Images.{JobImages, infos, last_offset}
use Rattle.module_table.specs.declared.modules.ImageInfo.{ImageInfo}
use Rattle.module_table.specs.declared.events.Event.{Event}
use Rattle.module_table.specs.Modules.{startup_end}
use Rattle.module_table.specs.Modules.{AreInfos}
use Rattle.module_table.specs.Past.{is_legal, start}
use Rattle.module_table.specs.Past.{IsLegal}
use Rattle.thread_blocks.specs.JobLoads.{job_loads}
use Rattle.known_instances.proofs.StaticOffsets.{end_low}

-- the blocks of all startup images together (a private lemma of loaded_modules, whose proof can't be cited)
pub last_low : (infos : List ImageInfo) → AreInfos infos → startup_end infos 0 < 2 ^ 27
last_low infos are =
    let low = end_low infos (length infos) 0 are.each in
    let whole : startup_end infos 0 ≤ 0 + length infos * 1052672 =
    subst (λ (xs : List ImageInfo). startup_end xs 0 ≤ 0 + length infos * 1052672) (take-length infos) low in
    omega (arith, whole, are.few)

-- a job's images, with the events that its threads added
pub job_legal : (m : JobImages) (events : List Event) → AreInfos (infos m)
    → is_legal (start (job_loads m).infos (job_loads m).last_offset) events ≡ true
    → IsLegal (job_loads m).infos (job_loads m).last_offset events
unfolding job_loads last_offset
job_legal m events are legal = record { images = are; low = last_low (infos m) are; each = legal }

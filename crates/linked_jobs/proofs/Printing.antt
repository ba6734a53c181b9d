-- What is loaded of linked images is tied to what they mean, so that what is printed is what is meant.
use Rattle.std.proofs.Common.{List, []}
use Rattle.std.proofs.lemmas.List.{append-nil}
use Rattle.known_instances.proofs.Legal.{job_legal}
use Rattle.loaded_bytes.specs.Laws.{images_of}
use Rattle.module_table.specs.declared.events.Event.{Event}
use Rattle.thread_blocks.proofs.Histories.{histories_legal}
use Rattle.thread_blocks.specs.JobLoads.{job_loads}
use Rattle.thread_blocks.specs.JobWorlds.{job_world}
use Rattle.thread_blocks.specs.Turns.{IsFront}
use Rattle.whole_meaning.specs.Loads.{meaning_of}
use Rattle.call_alike.proofs.Printing.{tied_jobs, tied_threads}
use Rattle.tied_fields.specs.Settings.{setting_of}
use Rattle.linked_jobs.proofs.Tied.{links_tied}
use Rattle.linked_jobs.specs.Laws.{LinkedJobsPrint, LinkedThreadsPrint}
use Rattle.linked_jobs.proofs.Infos.{are_infos}

whole : (events : List Event) → IsFront events events
whole events = ([], search (append-nil))

pub linked_jobs : LinkedJobsPrint
linked_jobs ls fuel lines order job few clean =
    let legal = job_legal (images_of ls) (job_world (job_loads (images_of ls)) fuel lines order).events
    (are_infos ls job)
    (histories_legal (job_loads (images_of ls)) fuel lines order) in
    tied_jobs (setting_of ls (job_world (job_loads (images_of ls)) fuel lines order).events) (meaning_of ls)
    (job_loads (images_of ls)) (job_world (job_loads (images_of ls)) fuel lines order).events
    (links_tied ls (job_world (job_loads (images_of ls)) fuel lines order).events job.ready legal)
    fuel lines order few (whole (job_world (job_loads (images_of ls)) fuel lines order).events) clean

pub linked_threads : LinkedThreadsPrint
linked_threads ls history ready legal fuel thread some few lines points at =
    tied_threads (setting_of ls history) (meaning_of ls) (job_loads (images_of ls)) history
    (links_tied ls history ready legal) fuel thread some few lines points at

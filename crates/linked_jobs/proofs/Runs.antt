-- Where threads of linked images stand, and what they find there.
use Rattle.loaded_bytes.specs.Laws.{images_of}
use Rattle.thread_blocks.specs.JobLoads.{job_loads}
use Rattle.whole_meaning.specs.Loads.{meaning_of}
use Rattle.tied_fields.specs.Settings.{setting_of}
use Rattle.linked_jobs.proofs.Answers.{agree, finds}
use Rattle.linked_jobs.proofs.Orders.{stands_among}
use Rattle.linked_jobs.proofs.Standing.{stands}
use Rattle.linked_jobs.proofs.Tied.{links_tied}
use Rattle.linked_jobs.specs.Answers.{LinkedAnswersAgree, LinkedJobsStandAlike, LinkedSequencesFind}
use Rattle.linked_jobs.specs.Answers.{LinkedThreadsStandAlike}

pub linked_stand : LinkedThreadsStandAlike
linked_stand ls history ready legal fuel thread low high own points seen at clean left h =
    stands (setting_of ls history) (meaning_of ls) (job_loads (images_of ls)) history
    (links_tied ls history ready legal) fuel thread low high own points seen at clean left h

pub jobs_stand : LinkedJobsStandAlike
jobs_stand ls history ready legal fuel lines order thread few ends clean t at left h =
    stands_among (setting_of ls history) (meaning_of ls) (job_loads (images_of ls)) history
    (links_tied ls history ready legal) fuel lines order thread few ends clean t at left h

pub linked_find : LinkedSequencesFind
linked_find ls history ready legal thread low high s seen h h' at =
    finds (links_tied ls history ready legal) low high s seen at.front h h' at.call at.here at.after at.takes

pub linked_agree : LinkedAnswersAgree
linked_agree ls history ready legal thread low high s d general descriptor target offset seen h h' at seen' k k' at' =
    agree (links_tied ls history ready legal) low high s d general descriptor target offset seen at.front h h' at.call
    at.here at.after at.takes seen' at'.front k k' at'.call at'.here at'.after at'.takes

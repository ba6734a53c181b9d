use Rattle.commands.proofs.Transcribed.{ran}
use Rattle.commands.proofs.runs.run_linked.Goals as goal

pub modules_again-requires : goal.modules_again-requires
modules_again-requires c = record { links = c.requires.links }

pub returns-clause-ran : goal.returns-clause-ran
returns-clause-ran c =
    ran c.linked_jobs_print.ensures c.transcripts_tell_their_threads.ensures c.verdict_knows_no_setting.ensures
    c.linked_images_hold_the_table.ensures c.args.job.now
    c.keeps_limits.ensures.few_threads c.args.all.items c.in_ok-modules.modules c.in_ok-modules.ensures.back c.run_job.result
    c.run_job.ensures.transcript

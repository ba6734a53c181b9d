use Rattle.std.proofs.Common.{◌∙◌, ap, rules}
use Rattle.run_summary.specs.Summaries.{counts_of}
use Rattle.commands.proofs.Transcribed.{is_told}
use Rattle.commands.proofs.runs.told_run.Goals as goal

pub write_images-requires : goal.write_images-requires
write_images-requires g c = (search rules, c.requires.links.ready.together.links)

pub run_linked-requires : goal.run_linked-requires
run_linked-requires g c = record { links = (c.args.ready.items, c.requires, c.in_ok-all.ensures) }

pub returns : goal.returns
returns g c =
    is_told c.args.telling c.args.job.now c.args.ready.items c.in_ok-all.all.items c.in_ok-all.ensures c.in_ok-counts.counts
    (c.in_ok-counts.ensures ∙ ap counts_of c.as_slice.ensures.value) c.in_ok-transcript.transcript
    (c.in_ok-transcript.ensures.ran c.args.ready.items c.requires c.in_ok-all.ensures) c.text.result c.text.ensures

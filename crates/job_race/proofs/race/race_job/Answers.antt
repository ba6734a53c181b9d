-- All threads are one row, and its transcript is told by what the row gave.
use Rattle.std.proofs.Common.{IfOk, sym, subst, ap, ◌∙◌}
use Rattle.loaded_modules.specs.Images.{JobImages}
use Rattle.module_table.specs.Past.{IsLegal}
use Rattle.shared_modules.specs.declared.board.Images.{Images}
use Rattle.shared_modules.specs.Passes.{SharedView}
use Rattle.job_race.specs.Rows.{CanRace, HasRow}
use Rattle.job_race.proofs.Passes.{all_can, all_ready}
use Rattle.job_race.proofs.Whole.{told_named, told_raced}
use Rattle.job_race.proofs.race.race_job.Goals as goal

pub race_threads-pass-requires-clause-can : goal.race_threads-pass-requires-clause-can
race_threads-pass-requires-clause-can g c κs within =
    subst (λ (m : JobImages). CanRace m 1 64 c.args.shared.now c.args.pass) (sym c.in-Ok.ensures)
    (all_can c.args.modules.now c.args.shared.now c.args.pass c.requires.of c.requires.all c.requires.fresh
    c.requires.images c.requires.alone)

pub returns-clause-whole : goal.returns-clause-whole
returns-clause-whole g c = all_ready c.args.shared.now c.race_threads-pass.result.0 c.race_threads-pass.ensures.ready

pub returns-clause-raced : goal.returns-clause-raced
returns-clause-raced g c =
    let job = c.args.job.now in
    let new = c.race_threads-pass.result.0 in
    let row = c.race_threads-pass.result.1 in
    let all = subst (λ (m : JobImages). IfOk row (HasRow m job 1 64 c.args.pass new)) c.in-Ok.ensures
    c.race_threads-pass.ensures.raced in
    told_raced c.args.modules.now job c.args.pass new row c.transcript_of-transcript.result all
    c.transcript_of-transcript.ensures
    c.keeps_limits.ensures.few_threads

pub returns-clause-named : goal.returns-clause-named
returns-clause-named g c =
    let job = c.args.job.now in
    let new = c.race_threads-pass.result.0 in
    let row = c.race_threads-pass.result.1 in
    let all = subst (λ (m : JobImages). IfOk row (HasRow m job 1 64 c.args.pass new)) c.in-Ok.ensures
    c.race_threads-pass.ensures.raced in
    let images = ap (λ (shared : SharedView). shared.images) c.race_threads-pass.ensures.ready.of ∙ c.requires.images in
    told_named c.args.modules.now job c.args.pass new row c.transcript_of-transcript.result all
    c.transcript_of-transcript.ensures c.requires.job
    (subst (λ (i : Images). IsLegal i.infos i.last_offset new.seen) images c.history_is_lawful.ensures)

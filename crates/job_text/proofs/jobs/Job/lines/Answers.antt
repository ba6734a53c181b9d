use Rattle.std.proofs.Common.{◌≡◌, arith, subst, sym}
use Rattle.std.proofs.lemmas.Grind.{common_steps}
use Rattle.std.specs.List.{All}
use Rattle.job_text.specs.JobLaws.{IsJob, IsLineOf, lines_of_thread}
use Rattle.job_text.proofs.Entries.{entry_at}
use Rattle.job_text.proofs.JobLemmas.{thread_placed}
use Rattle.job_text.proofs.jobs.Job.lines.Goals as goal

pub returns-in-Some-clause-placed : goal.returns-in-Some-clause-placed
returns-in-Some-clause-placed c =
    let entry = entry_at (λ lines. lines.items) c.self.inside.lines.items c.args.thread in
    let value : c.as_slice-in-Some.result.now ≡ lines_of_thread c.args.self.now c.args.thread =
    grind (arith, common_steps) in
    subst (All (IsLineOf c.args.self.now.images)) (sym value)
    (thread_placed c.args.self.now c.args.thread (subst IsJob c.self.view_is c.self.invariant))

use Rattle.std.proofs.Common.{◌≡◌, ℕ, List, arith, subst, sym}
use Rattle.std.proofs.lemmas.Grind.{common_steps}
use Rattle.std.specs.List.{Contains}
use Rattle.job_text.specs.JobLaws.{IsJob}
use Rattle.job_text.proofs.jobs.Job.mentions.Goals as goal

pub returns-clause-every : goal.returns-clause-every
returns-clause-every c =
    let value : c.as_slice.result.now ≡ c.args.self.now.mentions = grind (arith, common_steps) in
    let job = subst IsJob c.self.view_is c.self.invariant in
    λ k low high. subst (λ (list : List ℕ). Contains list k) (sym value) (job.mentioned.every k (low, high))

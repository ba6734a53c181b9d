use Rattle.std.proofs.Common.{◌+◌, ap, ◌∙◌, ◌++◌, length, take, drop, List, ℕ, replicate}
use Rattle.amd64_subset.specs.Decoding.{decoded}
use Rattle.job_meaning.specs.Reading.{completed}
use Rattle.meant_steps.proofs.Begun.{padded}
use Rattle.meant_steps.proofs.reading.completed.Goals as goal

pub returns : goal.returns
unfolding completed
returns c =
    let n = length c.args.bytes.now in
    c.decode.ensures.exact
    ∙ (ap (λ (l : List ℕ). decoded (take (n + 15) (l ++ drop n (replicate 30 0)))) c.copy_from_slice.ensures.after
    ∙ ap decoded (padded c.args.bytes.now c.requires))

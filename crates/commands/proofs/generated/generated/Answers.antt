use Rattle.std.proofs.Common.{◌∙◌, subst, sym, ap}
use Rattle.job_text.specs.Jobs.{job_of}
use Rattle.commands.specs.GeneratedRuns.{MadeSays}
use Rattle.commands.proofs.MadeRuns.{gen_comes}
use Rattle.command_replies.specs.Steps.{Comes}
use Rattle.commands.proofs.Saying.{items}
use Rattle.commands.proofs.generated.generated.Goals as goal

pub returns-in-Ok-clause-says : goal.returns-in-Ok-clause-says
returns-in-Ok-clause-says g c =
    let job = sym (ap job_of (c.as_slice.ensures.value ∙ c.in_ok-text.ensures)) ∙ c.in-Ok.ensures.job in
    gen_comes c.generated_texts_are_jobs.ensures c.generated_objects_are_faultless.ensures c.generated_objects_link.ensures
    c.args.count c.requires.some c.requires.few c.run_generated.result
    (subst (λ answer. Comes items (MadeSays c.args.count answer) c.run_generated.result)
    (sym job) c.run_generated.ensures.says)

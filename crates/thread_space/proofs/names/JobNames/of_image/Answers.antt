use Rattle.std.proofs.Common.{◌∙◌, ap}
use Rattle.job_text.specs.Numbering.{at_number}
use Rattle.loaded_modules.specs.Images.{image_at}
use Rattle.thread_space.proofs.names.JobNames.of_image.Goals as goal

pub returns : goal.returns
unfolding image_at
returns c =
    c.at_number.ensures
    ∙ ap (λ images. at_number images c.args.number)
    (c.as_slice.ensures.value ∙ c.self.invariant ∙ ap (λ m. m.images) c.self.view_is)

use Rattle.std.proofs.Common.{◌∙◌, ap}
use Rattle.std.specs.Prelude.{option_map}
use Rattle.job_meaning.specs.declared.values.Byte.TheVariants.{Value}
use Rattle.memory_image.proofs.Ranging.{still_is}
use Rattle.memory_image.proofs.ranges.StillBytes.byte.Goals as goal

pub returns : goal.returns
returns c = λ l are keeps.
    ap (option_map Value) c.byte_for.ensures
    ∙ still_is l c.args.bias keeps c.args.self.now c.args.access c.args.place are

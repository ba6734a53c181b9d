use Rattle.std.proofs.Common.{◌∙◌, ap, sym}
use Rattle.std.specs.Prelude.{option_and_then}
use Rattle.image_names.specs.Meanings.{variable_of}
use Rattle.image_names.proofs.Telling.{variable_meant}
use Rattle.image_names.proofs.names.ImageNames.variable.Goals as goal

pub returns-in_err-meaning : goal.returns-in_err-meaning
returns-in_err-meaning c =
    c.from_residual.ensures
    ∙ ap (option_and_then variable_of) (sym c.in_err-meaning.was ∙ c.meaning.ensures)
    ∙ variable_meant c.args.self.now c.args.name.now

pub returns : goal.returns
returns c =
    c.variable.ensures
    ∙ ap (option_and_then variable_of) (sym c.in_ok-meaning.was ∙ c.meaning.ensures)
    ∙ variable_meant c.args.self.now c.args.name.now

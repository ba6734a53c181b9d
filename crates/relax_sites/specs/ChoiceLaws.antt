-- A choice, as a relation.
use Rattle.sequence_forms.specs.declared.forms.Form.{Form}
use Rattle.sequence_forms.specs.declared.forms.Form.TheVariants.{Gd, Ld, IeMov, IeAdd, GdInd, LdInd, DescLea, DescCall}
use Rattle.relax_sites.specs.declared.choices.Choice.{Choice}
use Rattle.relax_sites.specs.declared.choices.Choice.TheVariants.{Keep, GdLe, GdIe, LdLe, IeLe, DescLe, DescIe}

-- the choices of each form
abbrev pub IsChoiceOf : Form → Choice → Type 0
IsChoiceOf Gd GdLe = Unit {0}
IsChoiceOf Gd GdIe = Unit {0}
IsChoiceOf GdInd GdLe = Unit {0}
IsChoiceOf GdInd GdIe = Unit {0}
IsChoiceOf Ld LdLe = Unit {0}
IsChoiceOf LdInd LdLe = Unit {0}
IsChoiceOf IeMov IeLe = Unit {0}
IsChoiceOf IeAdd IeLe = Unit {0}
IsChoiceOf DescLea DescLe = Unit {0}
IsChoiceOf DescLea DescIe = Unit {0}
IsChoiceOf DescCall DescLe = Unit {0}
IsChoiceOf DescCall DescIe = Unit {0}
IsChoiceOf form Keep = Unit {0}
IsChoiceOf form choice = ⊥

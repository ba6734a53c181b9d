-- The names of forms and choices, as they are printed.
use Rattle.std.specs.Prelude.{ℕ, List, codes}
use Rattle.sequence_forms.specs.declared.forms.Form.{Form}
use Rattle.sequence_forms.specs.declared.forms.Form.TheVariants.{Gd, Ld, IeMov, IeAdd, GdInd, LdInd, DescLea, DescCall}
use Rattle.relax_sites.specs.declared.choices.Choice.{Choice}
use Rattle.relax_sites.specs.declared.choices.Choice.TheVariants.{Keep, GdLe, GdIe, LdLe, IeLe, DescLe, DescIe}

-- the name of a form
abbrev pub form_name : Form → List ℕ
form_name Gd = codes "gd"
form_name Ld = codes "ld"
form_name IeMov = codes "ie-mov"
form_name IeAdd = codes "ie-add"
form_name GdInd = codes "gd-ind"
form_name LdInd = codes "ld-ind"
form_name DescLea = codes "desc-lea"
form_name DescCall = codes "desc-call"

-- the name of a choice
abbrev pub choice_name : Choice → List ℕ
choice_name Keep = codes "keep"
choice_name GdLe = codes "gd-le"
choice_name GdIe = codes "gd-ie"
choice_name LdLe = codes "ld-le"
choice_name IeLe = codes "ie-le"
choice_name DescLe = codes "desc-le"
choice_name DescIe = codes "desc-ie"

use Rattle.sequence_forms.specs.declared.forms.Form.TheVariants.{LdInd}
use Rattle.sequence_match.proofs.Seconds.{of_four, none_where_false}
use Rattle.sequence_match.proofs.matching.is_second.Goals as goal

pub returns : goal.returns
returns c = (
  λ t. (LdInd, c.is_second_of_form-4.ensures.0 t),
  λ h.
      c.is_second_of_form-4.ensures.1
      (of_four c.args.code.now c.args.entry
      (none_where_false _ _ c.is_second_of_form.ensures c.if-is_second_of_form.false)
      (none_where_false _ _ c.is_second_of_form-2.ensures c.if-is_second_of_form-2.false)
      (none_where_false _ _ c.is_second_of_form-3.ensures c.if-is_second_of_form-3.false) h.0 h.1),
)

use Rattle.std.proofs.Common.{◌-◌, ◌∙◌, Option, sym, subst, arith, rules}
use Rattle.sequence_forms.specs.declared.forms.Second.{Second}
use Rattle.sequence_match.specs.Code.{Names}
use Rattle.sequence_forms.specs.Forms.{row}
use Rattle.sequence_match.specs.Sites.{IsSecond}
use Rattle.sequence_match.proofs.Seconds.{first_within, start_of_second}
use Rattle.sequence_match.proofs.matching.is_second_of_form.Goals as goal

pub returns-then-left-row : goal.returns-then-left-row
returns-then-left-row c = (
  λ t. absurd (cc),
  λ h.
      let code = c.args.code.now in
      let start = c.relocation_at-relocation.result.offset - c.in-Some.second.at in
      let calls = c.calls.ensures.0 (search rules) in
      let S : Option Second → Type 0 =
      λ o. IsSecond o (Names code.getters.now) code.relocations.now start c.args.entry in
      let second = subst S (sym c.in-Some.is ∙ c.row-row.ensures.second_is)
      (c.relocation_at-relocation.result, c.relocation_at-relocation.ensures, calls) in
      let same = start_of_second (row c.args.form).second
      (Names code.getters.now) code.relocations.now h.1.0.start start c.args.entry h.1.3 second in
      let within = first_within code c.args.form c.args.entry start h same in
      absurd (omega (arith, within, c.row-row.ensures.first_at_is)),
)

use Rattle.std.proofs.Common.{◌<◌, ◌∙◌, Option, IfSome, length, sym, subst, arith}
use Rattle.sequence_forms.specs.declared.forms.Second.{Second}
use Rattle.sequence_forms.specs.Forms.{row}
use Rattle.sequence_match.proofs.Rows.{second_inside}
use Rattle.sequence_match.proofs.matching.is_second_of.Goals as goal

pub calls-requires : goal.calls-requires
calls-requires c =
    let form = c.args.site.now.form in
    let S : Option Second → Type 0 = λ o. IfSome o (λ s. s.at < length (row form).cells) in
    let inside = subst S (sym c.row.ensures.second_is ∙ c.in-Some.is) (second_inside form) in
    omega (arith, c.requires.site.1.spelled.inside, inside)

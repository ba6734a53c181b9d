use Rattle.std.proofs.Common.{ℕ, subst}
use Rattle.sequence_match.specs.declared.index.Reach.TheVariants.{OfField}
use Rattle.sequence_match.specs.Code.{ReachesAt}
use Rattle.sequence_match.proofs.Seconds.{not_covered, no_sequence, a_sequence}
use Rattle.sequence_match.proofs.matching.is_second_at.Goals as goal

pub returns-in_default : goal.returns-in_default
returns-in_default c =
    let code = c.args.code.now in
    let P : ℕ → Type 0 = λ k. (e : ℕ) → ReachesAt OfField code.relocations.now k e → ⊥ in (
      λ t. absurd (cc),
      λ h. absurd (not_covered code c.requires.ready c.args.form c.args.entry c.args.start c.requires.second
          (subst P c.requires.place c.in_default.ensures) h),
    )

pub returns-in-None : goal.returns-in-None
returns-in-None c =
    let code = c.args.code.now in
    let P : ℕ → Type 0 = λ k. ReachesAt OfField code.relocations.now k c.in-Some.first in (
      λ t. absurd (cc),
      λ h. absurd
          (no_sequence code c.requires.ready c.args.form c.args.entry c.args.start c.requires.second c.in-Some.first
          (subst P c.requires.place c.in-Some.ensures.0)
          c.in-None.ensures h),
    )

pub returns-in-Some-form_of : goal.returns-in-Some-form_of
returns-in-Some-form_of c =
    let code = c.args.code.now in
    let P : ℕ → Type 0 = λ k. ReachesAt OfField code.relocations.now k c.in-Some.first in
    a_sequence code c.requires.ready c.args.form c.args.entry c.args.start c.requires.second c.in-Some.first c.site_at.result c.is_at.result
    (subst P c.requires.place c.in-Some.ensures.0) c.site_at.ensures.found c.is_at.ensures

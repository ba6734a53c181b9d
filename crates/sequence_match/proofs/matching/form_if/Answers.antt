use Rattle.std.proofs.Common.{◌≡◌, ◌+◌, ◌-◌, ℕ, refl, arith, rules}
use Rattle.sequence_forms.specs.Forms.{row}
use Rattle.sequence_match.proofs.Opened.{site_from, site_is_at}
use Rattle.sequence_match.proofs.matching.form_if.Goals as goal

pub returns-clause-opened : goal.returns-clause-opened
returns-clause-opened c =
    let x = c.args.first.now in
    let start : ℕ = x.offset - c.row-row.result.first_at in
    let offset : x.offset ≡ start + (row c.args.form).first_at =
    omega (arith, c.row-row.ensures.first_at_is, c.if-first-row.false) in (
      site_from c.args.code.now c.args.form x start,
      refl,
      site_is_at c.args.code.now c.args.entry x c.requires.entry c.args.form start c.requires.kind offset
          (c.is_site_at.ensures.0 (search rules)),
    )

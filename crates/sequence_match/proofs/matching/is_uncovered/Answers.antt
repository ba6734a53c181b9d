use Rattle.std.proofs.Common.{◌≡◌, ◌+◌, refl, sym, ap, arith, rules}
use Rattle.elf_object.specs.Relocations.{field_width}
use Rattle.sequence_forms.specs.Forms.{row}
use Rattle.sequence_match.specs.Code.{behind_at, behind_end}
use Rattle.sequence_match.proofs.Literals.{bare_moved}
use Rattle.sequence_match.proofs.Seconds.{none_where_false}
use Rattle.sequence_match.proofs.matching.is_uncovered.Goals as goal

pub returns-then-is_bare : goal.returns-then-is_bare
returns-then-is_bare c =
    let xs = c.args.code.now.relocations.now in
    let spelling = c.args.spelling.now in
    let start = c.args.start in
    let form = c.args.form in
    let at : start + spelling.first_at ≡ start + (row form).first_at = omega (arith, c.requires.spelling.first_at_is) in
    let behind : (start + spelling.first_at) + c.width.result ≡ start + behind_at (row form) =
    omega (arith, c.requires.spelling.first_at_is, c.width.ensures, ap field_width c.requires.spelling.first_is) in
    let end : start + c.end_behind.result ≡ start + behind_end (row form) = omega (arith, c.end_behind.ensures) in (
      λ t. (
        bare_moved xs start _ start _ refl at (c.is_bare.ensures.0 (search rules)),
        bare_moved xs _ _ _ _ behind end (c.is_bare-then-is_bare.ensures.0 t),
      ),
      λ h. c.is_bare-then-is_bare.ensures.1 (bare_moved xs _ _ _ _ (sym behind) (sym end) h.1),
    )

pub returns-else-is_bare : goal.returns-else-is_bare
returns-else-is_bare c =
    let xs = c.args.code.now.relocations.now in
    let start = c.args.start in
    let at : start + (row c.args.form).first_at ≡ start + c.args.spelling.now.first_at =
    omega (arith, c.requires.spelling.first_at_is) in (
      λ t. absurd (none_where_false _ _ c.is_bare.ensures c.if-is_bare.false (c.is_bare.ensures.0 t)),
      λ h. absurd (none_where_false _ _ c.is_bare.ensures c.if-is_bare.false
          (bare_moved xs start _ start _ refl at h.0)),
    )

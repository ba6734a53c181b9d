use Rattle.std.proofs.Common.{◌≤◌, ◌+◌, List, length, ap, subst, arith, rules}
use Rattle.sequence_forms.specs.declared.forms.Cell.{Cell}
use Rattle.sequence_forms.specs.Forms.{row}
use Rattle.sequence_match.specs.Code.{AreBytes}
use Rattle.sequence_match.proofs.Literals.{spelled_by}
use Rattle.sequence_match.proofs.matching.is_spelled.Goals as goal

pub returns-then-are_bytes : goal.returns-then-are_bytes
returns-then-are_bytes c =
    let code = c.args.code.now in
    let B : List Cell → Type 0 = λ cells. AreBytes code.bytes.now cells c.args.start in
    let inside : c.args.start + length (row c.args.form).cells ≤ length code.bytes.now =
    omega (arith, ap length c.requires.spelling.cells_are, c.if-len-start.false, c.if-len-start-2.false) in
    let bytes = subst B c.requires.spelling.cells_are (c.are_bytes.ensures.0 (search rules)) in
    spelled_by code.bytes.now code.relocations.now c.args.form c.args.start c.is_uncovered.result inside (
      λ t. let bare = c.is_uncovered.ensures.0 t in (bytes, bare.0, bare.1),
      λ h. c.is_uncovered.ensures.1 (h.1, h.2),
    )

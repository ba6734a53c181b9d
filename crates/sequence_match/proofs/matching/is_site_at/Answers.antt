use Rattle.std.proofs.Common.{◌+◌, ◌≤◌, length, sym, subst, arith, rules}
use Rattle.elf_records.specs.declared.relocation.RelocationKind.{RelocationKind}
use Rattle.sequence_match.specs.Faults.{IsOfSequence}
use Rattle.sequence_forms.specs.Forms.{row}
use Rattle.sequence_match.proofs.Rows.{first_inside, first_of_sequence, second_inside, second_within}
use Rattle.sequence_match.proofs.matching.is_site_at.Goals as goal

pub has_second-requires-clause-inside : goal.has_second-requires-clause-inside
has_second-requires-clause-inside c =
    let spelled = c.is_spelled.ensures.0 (search rules) in
    let inside : c.args.start + length (row c.args.form).cells ≤ length c.args.code.now.bytes.now = spelled.inside in
    rw c.row-row.ensures.second_is
    (second_within (row c.args.form).second (length (row c.args.form).cells) c.args.start
    (length c.args.code.now.bytes.now) (second_inside c.args.form) inside)

pub is_earliest-requires-clause-inside : goal.is_earliest-requires-clause-inside
is_earliest-requires-clause-inside c =
    let spelled = c.is_spelled.ensures.0 (search rules) in
    omega (arith, spelled.inside, first_inside c.args.form, c.requires.offset)

pub is_earliest-requires-clause-kind : goal.is_earliest-requires-clause-kind
is_earliest-requires-clause-kind c =
    let K : RelocationKind → Type 0 = λ kind. IsOfSequence kind in
    subst K (sym c.requires.kind) (first_of_sequence c.args.form)

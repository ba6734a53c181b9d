use Rattle.std.proofs.Common.{subst, sym}
use Rattle.elf_records.specs.declared.file_header.Header.{Header}
use Rattle.image_faults.specs.Fields.{IsRightField}
use Rattle.image_faults.proofs.Order.{first_field, kept_field}
use Rattle.image_faults.proofs.headers.ask_field.Goals as goal

pub fault_at-requires-clause-first : goal.fault_at-requires-clause-first
fault_at-requires-clause-first c =
    first_field c.args.rule c.args.bytes.now c.requires.earlier
    (λ right. let P : Header → Type 0 = IsRightField c.args.rule in
    let wrong = c.if-is_right_field.ensures.1 (subst P (sym c.requires.header) right) in cc)

pub returns-then-is_right_field-clause-answers : goal.returns-then-is_right_field-clause-answers
returns-then-is_right_field-clause-answers c =
    let P : Header → Type 0 = IsRightField c.args.rule in
    kept_field c.args.rule c.args.bytes.now c.requires.earlier
    (subst P c.requires.header (c.is_right_field.ensures.0 c.if-is_right_field.true))

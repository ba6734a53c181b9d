use Rattle.image_faults.proofs.Order.{first_entry, kept_entry}
use Rattle.image_faults.proofs.tables.ask_entry.Goals as goal

pub fault_at-requires-clause-first : goal.fault_at-requires-clause-first
fault_at-requires-clause-first c =
    first_entry c.args.rule c.args.segments.now.headers.bytes.now c.entry_place-entry.result c.entry_place-entry.ensures.place c.requires.earlier
    (λ right. let wrong = c.if-is_right_entry.ensures.1 right in cc)

pub returns-then-is_right_entry-clause-answers : goal.returns-then-is_right_entry-clause-answers
returns-then-is_right_entry-clause-answers c =
    kept_entry c.args.rule c.args.segments.now.headers.bytes.now c.requires.earlier
    (c.is_right_entry.ensures.0 c.if-is_right_entry.true)

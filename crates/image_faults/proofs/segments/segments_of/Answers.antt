use Rattle.image_faults.proofs.HeaderTable.{load_fault, dynamic_fault, rest_fault, no_fault}
use Rattle.image_faults.proofs.segments.segments_of.Goals as goal

pub segment_fault-requires-clause-first : goal.segment_fault-requires-clause-first
segment_fault-requires-clause-first c =
    load_fault c.args.headers.bytes.now c.load_count-loads.result c.in-Some.number c.load_count-loads.ensures.count c.requires
    c.in-Some.ensures.0 c.in-Some.ensures.1

pub segment_fault-requires-then-not-is_right_dynamic-clause-first : goal.segment_fault-requires-then-not-is_right_dynamic-clause-first
segment_fault-requires-then-not-is_right_dynamic-clause-first c =
    dynamic_fault c.args.headers.bytes.now c.load_count-loads.result c.load_count-loads.ensures.count c.requires c.in_default.ensures
    (λ right. let wrong = c.if-not-is_right_dynamic.ensures.1 right in cc)

pub segment_fault-requires-in-Some-first_wrong_rest-clause-first : goal.segment_fault-requires-in-Some-first_wrong_rest-clause-first
segment_fault-requires-in-Some-first_wrong_rest-clause-first c =
    rest_fault c.args.headers.bytes.now c.load_count-loads.result c.in-Some-first_wrong_rest.number c.load_count-loads.ensures.count c.requires
    c.in_default.ensures (c.is_right_dynamic.ensures.0 c.if-not-is_right_dynamic.false)
    c.in-Some-first_wrong_rest.ensures.0 c.in-Some-first_wrong_rest.ensures.1

pub returns-clause-answers : goal.returns-clause-answers
returns-clause-answers c =
    no_fault c.args.headers.bytes.now c.load_count-loads.result c.load_count-loads.ensures.count c.requires c.in_default.ensures
    (c.is_right_dynamic.ensures.0 c.if-not-is_right_dynamic.false) c.in_default-first_wrong_rest.ensures

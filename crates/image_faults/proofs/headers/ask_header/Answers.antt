use Rattle.image_faults.proofs.File.{first_length, first_ident, kept_ident}
use Rattle.image_faults.proofs.headers.ask_header.Goals as goal

pub fault_at-requires-clause-first : goal.fault_at-requires-clause-first
fault_at-requires-clause-first c = first_length c.args.bytes.now c.in_default.ensures

pub fault_at-requires-in-Some-first_wrong_ident-clause-first : goal.fault_at-requires-in-Some-first_wrong_ident-clause-first
fault_at-requires-in-Some-first_wrong_ident-clause-first c =
    first_ident c.args.bytes.now c.in-Some.found c.in-Some-first_wrong_ident.index c.in-Some.ensures.0 c.in-Some.ensures.1
    c.in-Some-first_wrong_ident.ensures.0 c.in-Some-first_wrong_ident.ensures.1

pub ask_field-requires-clause-earlier : goal.ask_field-requires-clause-earlier
ask_field-requires-clause-earlier c =
    kept_ident c.args.bytes.now c.in-Some.found c.in-Some.ensures.0 c.in-Some.ensures.1 c.in_default-first_wrong_ident.ensures

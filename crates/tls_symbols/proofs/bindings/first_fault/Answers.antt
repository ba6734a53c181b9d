use Rattle.std.proofs.Common.{sym, subst}
use Rattle.tls_symbols.specs.Faults.{IsFault}
use Rattle.tls_symbols.proofs.Resolves.{undefined_first, none_undefined, duplicate_first, none_duplicate, not_tls_first}
use Rattle.tls_symbols.proofs.Resolves.{none_not_tls}
use Rattle.tls_symbols.proofs.bindings.first_fault.Goals as goal

pub returns-in-Some : goal.returns-in-Some
returns-in-Some c =
    let objects = c.args.names.now.objects.now in
    let startup = c.args.names.now.startup.now in
    subst (IsFault objects startup) (sym c.fault.ensures)
    (undefined_first objects startup c.in-Some.place c.in-Some.ensures)

pub returns-in-Some-first_duplicate : goal.returns-in-Some-first_duplicate
returns-in-Some-first_duplicate c =
    let objects = c.args.names.now.objects.now in
    let startup = c.args.names.now.startup.now in
    let earlier = none_undefined objects startup c.in_default.ensures in
    subst (IsFault objects startup) (sym c.fault-in-Some-first_duplicate.ensures)
    (duplicate_first objects startup earlier c.in-Some-first_duplicate.place c.in-Some-first_duplicate.ensures)

pub returns-in-Some-first_charged : goal.returns-in-Some-first_charged
returns-in-Some-first_charged c =
    let objects = c.args.names.now.objects.now in
    let startup = c.args.names.now.startup.now in
    let earlier = none_duplicate objects startup
    (none_undefined objects startup c.in_default.ensures) c.in_default-first_duplicate.ensures in
    subst (IsFault objects startup) (sym c.fault-in-Some-first_charged.ensures)
    (not_tls_first objects startup earlier c.in-Some-first_charged.place c.in-Some-first_charged.ensures)

pub returns-in-None : goal.returns-in-None
returns-in-None c =
    let objects = c.args.names.now.objects.now in
    let startup = c.args.names.now.startup.now in
    let earlier = none_duplicate objects startup
    (none_undefined objects startup c.in_default.ensures) c.in_default-first_duplicate.ensures in
    none_not_tls objects startup earlier c.in-None.ensures

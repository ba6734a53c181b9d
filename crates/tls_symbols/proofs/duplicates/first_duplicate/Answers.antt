use Rattle.std.proofs.Common.{[]}
use Rattle.std.proofs.lemmas.List.{get_or_read}
use Rattle.tls_symbols.proofs.FirstFaults.{first_here, none_next}
use Rattle.tls_symbols.proofs.duplicates.first_duplicate.Goals as goal

pub returns-in-Some : goal.returns-in-Some
returns-in-Some c =
    let objects = c.args.names.now.objects.now in
    let i = c.loop-index.index in
    let b = c.object-item.result in
    let here = get_or_read objects i b c.loop-index-test.true c.object-item.is [] in
    rw c.symbol_table.ensures
    (first_here objects i b here c.loop-index.invariant c.loop-index-test.true c.in-Some.entry c.in-Some.ensures)

pub loop-index-preserved : goal.loop-index-preserved
loop-index-preserved c =
    let objects = c.args.names.now.objects.now in
    let i = c.loop-index.index in
    let b = c.object-item.result in
    let here = get_or_read objects i b c.loop-index-test.true c.object-item.is [] in
    none_next objects i b here c.loop-index.invariant c.in_default.ensures

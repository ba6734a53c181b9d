use Rattle.std.proofs.Common.{map}
use Rattle.elf_object.specs.Lent.{symbol_name}
use Rattle.tls_symbols.specs.Bindings.{object_at}
use Rattle.tls_symbols.proofs.KnownNames.{known_run_time, numbered_name}
use Rattle.tls_symbols.proofs.image_names.is_run_time.Goals as goal

pub returns-in-Some : goal.returns-in-Some
returns-in-Some c =
    let n = c.args.names.now in
    let b = object_at n.objects.now c.args.object in
    let named = numbered_name n.numbers.names.keys b c.args.symbol c.symbol_at.result c.in-Some.number c.symbol_at.ensures c.in-Some.is in
    known_run_time n.objects.now n.startup.now n.numbers.names.keys
    (map (λ own. own.items) n.numbers.symbols.items) n.strong.items n.weak.items n.imported.items c.requires.known
    (symbol_name b c.args.symbol) c.in-Some.number named.number

use Rattle.std.proofs.Common.{◌≡◌, ◌∙◌, map, sym, subst}
use Rattle.std.specs.Prelude.{IfSome}
use Rattle.elf_object.specs.Lent.{symbol_name}
use Rattle.tls_symbols.specs.Bindings.{object_at}
use Rattle.tls_symbols.specs.Definitions.{definition_of, IsWithin}
use Rattle.tls_symbols.proofs.KnownNames.{known_definition, numbered_name}
use Rattle.tls_symbols.proofs.Within.{definition_within}
use Rattle.tls_symbols.proofs.image_names.symbol_definition.Goals as goal

found : (c : goal.After-definition_at)
    → c.definition_at.result
    ≡ definition_of c.args.names.now.objects.now
    (symbol_name (object_at c.args.names.now.objects.now c.args.object) c.args.symbol)
found c =
    let n = c.args.names.now in
    let b = object_at n.objects.now c.args.object in
    let named = numbered_name n.numbers.names.keys b c.args.symbol c.symbol_at.result c.in-Some.number c.symbol_at.ensures c.in-Some.is in
    c.definition_at.ensures
    ∙ known_definition n.objects.now n.startup.now n.numbers.names.keys
    (map (λ own. own.items) n.numbers.symbols.items) n.strong.items n.weak.items n.imported.items c.requires.known
    (symbol_name b c.args.symbol) c.in-Some.number named.number.number

pub returns-in-Some-clause-definition : goal.returns-in-Some-clause-definition
returns-in-Some-clause-definition c = found c

pub returns-in-Some-clause-within : goal.returns-in-Some-clause-within
returns-in-Some-clause-within c =
    let n = c.args.names.now in
    subst (λ r. IfSome r (IsWithin n.objects.now)) (sym (found c))
    (definition_within n.objects.now (symbol_name (object_at n.objects.now c.args.object) c.args.symbol))

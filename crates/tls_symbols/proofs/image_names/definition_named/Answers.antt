use Rattle.std.proofs.Common.{◌≡◌, ◌∙◌, map, sym, subst}
use Rattle.std.specs.Prelude.{IfSome}
use Rattle.tls_symbols.specs.Definitions.{definition_of, IsWithin}
use Rattle.tls_symbols.proofs.KnownNames.{known_definition, known_none, position_some, position_none}
use Rattle.tls_symbols.proofs.Within.{definition_within}
use Rattle.tls_symbols.proofs.image_names.definition_named.Goals as goal

found : (c : goal.After-definition_at)
    → c.definition_at.result ≡ definition_of c.args.names.now.objects.now c.args.name.now
found c =
    let n = c.args.names.now in
    c.definition_at.ensures
    ∙ known_definition n.objects.now n.startup.now n.numbers.names.keys
    (map (λ own. own.items) n.numbers.symbols.items) n.strong.items n.weak.items n.imported.items c.requires
    c.args.name.now c.in-Some.number
    (position_some n.numbers.names.keys c.args.name.now c.in-Some.number (sym c.in-Some.ensures.index))

pub returns-in-Some-clause-definition : goal.returns-in-Some-clause-definition
returns-in-Some-clause-definition c = found c

pub returns-in-Some-clause-within : goal.returns-in-Some-clause-within
returns-in-Some-clause-within c =
    subst (λ r. IfSome r (IsWithin c.args.names.now.objects.now)) (sym (found c))
    (definition_within c.args.names.now.objects.now c.args.name.now)

pub returns-in-None-clause-definition : goal.returns-in-None-clause-definition
returns-in-None-clause-definition c =
    let n = c.args.names.now in
    known_none n.objects.now n.startup.now n.numbers.names.keys
    (map (λ own. own.items) n.numbers.symbols.items) n.strong.items n.weak.items n.imported.items c.requires
    c.args.name.now (position_none n.numbers.names.keys c.args.name.now (sym c.in-None.ensures.index))

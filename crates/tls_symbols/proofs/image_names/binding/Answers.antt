use Rattle.std.proofs.Common.{◌≡◌, ◌∙◌, map, refl, sym, subst}
use Rattle.std.specs.Prelude.{IfSome}
use Rattle.elf_object.specs.Lent.{symbol_name}
use Rattle.tls_symbols.specs.Bindings.{bound_to, may, object_at, IsBindingWithin}
use Rattle.tls_symbols.proofs.KnownNames.{known_binding, numbered_name}
use Rattle.tls_symbols.proofs.Within.{bound_within}
use Rattle.tls_symbols.proofs.image_names.binding.Goals as goal
use Rattle.tls_symbols.proofs.image_names.binding.Goals.{After-binding_at}

bound : (c : After-binding_at)
    → c.binding_at.result ≡ bound_to c.args.names.now.objects.now c.args.names.now.startup.now c.args.object c.args.symbol (may c.args.imports)
unfolding bound_to
bound c =
    let n = c.args.names.now in
    let objects = n.objects.now in
    let symbol = c.args.symbol in
    let b = object_at objects c.args.object in
    let named = numbered_name n.numbers.names.keys b symbol c.symbol_at.result c.in-Some.number c.symbol_at.ensures c.in-Some.is in
    c.binding_at.ensures
    ∙ known_binding objects n.startup.now n.numbers.names.keys
    (map (λ own. own.items) n.numbers.symbols.items) n.strong.items n.weak.items n.imported.items c.requires.known
    (symbol_name b symbol) c.in-Some.number (may c.args.imports) named.number
    ∙ rw named.shared refl

pub returns-in-Some-clause-binding : goal.returns-in-Some-clause-binding
returns-in-Some-clause-binding c = bound c

pub returns-in-Some-clause-within : goal.returns-in-Some-clause-within
returns-in-Some-clause-within c =
    subst (λ r. IfSome r (IsBindingWithin c.args.names.now.objects.now)) (sym (bound c))
    (bound_within c.args.names.now.objects.now c.args.names.now.startup.now c.args.object c.args.symbol
    (may c.args.imports) c.requires.object c.requires.symbol)

use Rattle.std.proofs.Common.{◌∙◌, None, Some, append-nil, sym, ap}
use Rattle.elf_object.specs.Lent.{symbol_name}
use Rattle.dynamic_symbols.proofs.Adding.{bound_new, inserted_name}
use Rattle.dynamic_symbols.proofs.defining.add_name.Goals as goal

pub returns-in_ok-push-clause-names : goal.returns-in_ok-push-clause-names
returns-in_ok-push-clause-names c =
    inserted_name c.args.found.now.names.keys c.insert.new.self.keys c.symbol_name.result _ c.in_ok-insert.ensures.keys c.symbol_name.ensures.name

pub returns-in_default-clause-names : goal.returns-in_default-clause-names
returns-in_default-clause-names c =
    inserted_name c.args.found.now.names.keys c.insert.new.self.keys c.symbol_name.result _ c.in_ok-insert.ensures.keys c.symbol_name.ensures.name

pub returns-else-branch-clause-names : goal.returns-else-branch-clause-names
returns-else-branch-clause-names c =
    inserted_name c.args.found.now.names.keys c.insert.new.self.keys c.symbol_name.result _ c.in_ok-insert.ensures.keys c.symbol_name.ensures.name

pub returns-in_ok-push-clause-bound : goal.returns-in_ok-push-clause-bound
returns-in_ok-push-clause-bound c =
    let old = c.args.found.now in
    c.in_ok-push.ensures.items
    ∙ bound_new old.names.keys c.insert.new.self.keys c.symbol_name.result _ c.in_ok-insert.ensures.keys
    (c.symbol_name.ensures.name ∙ ap (λ b. symbol_name b c.args.symbol) c.requires.here)
    c.args.bindings.now.objects old.symbols.items (Some c.in-Some.definition) c.requires.bound
    (sym c.if-branch.true ∙ c.in_ok-insert.ensures.added)
    (sym c.in-Some.is ∙ c.symbol_definition.ensures.definition)

pub returns-in_default-clause-bound : goal.returns-in_default-clause-bound
returns-in_default-clause-bound c =
    let old = c.args.found.now in
    sym (append-nil old.symbols.items)
    ∙ bound_new old.names.keys c.insert.new.self.keys c.symbol_name.result _ c.in_ok-insert.ensures.keys
    (c.symbol_name.ensures.name ∙ ap (λ b. symbol_name b c.args.symbol) c.requires.here)
    c.args.bindings.now.objects old.symbols.items None c.requires.bound
    (sym c.if-branch.true ∙ c.in_ok-insert.ensures.added)
    (sym c.in_default.is ∙ c.symbol_definition.ensures.definition)

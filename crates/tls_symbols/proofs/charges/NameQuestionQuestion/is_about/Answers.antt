use Rattle.std.proofs.Common.{◌∙◌, sym, ap}
use Rattle.elf_records.specs.RelocationRows.{is_named}
use Rattle.tls_symbols.proofs.Charged.{named_type}
use Rattle.tls_symbols.proofs.charges.NameQuestionQuestion.is_about.Goals as goal

pub is_charged_as-requires-clause-symbol : goal.is_charged_as-requires-clause-symbol
is_charged_as-requires-clause-symbol c named =
    c.requires.symbol (named_type c.args.found.now.relocation.kind
    (sym (ap (λ row. is_named row.symbol) c.row-role.ensures) ∙ named))

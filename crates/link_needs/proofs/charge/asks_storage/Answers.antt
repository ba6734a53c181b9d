use Rattle.std.proofs.Common.{◌≡◌, true, inl, inr, ap}
use Rattle.elf_records.specs.RowLaws.{is_entry}
use Rattle.link_needs.proofs.Named.{named}
use Rattle.link_needs.proofs.charge.asks_storage.Goals as goal

pub is_here-requires-clause-symbol : goal.is_here-requires-clause-symbol
is_here-requires-clause-symbol c =
    let reaches : is_entry c.row.result.entry ≡ true =
    elim c.in-SymbolPair.is [ inl e ↦ ap is_entry e | inr e ↦ ap is_entry e ] in
    c.requires.symbol (named c.args.relocation.now.kind c.row.result c.row.ensures reaches)

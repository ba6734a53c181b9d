use Rattle.std.proofs.Common.{◌≡◌, ◌+◌, List, length, get_or, refl, subst, sym, ap, ◌∙◌, arith}
use Rattle.std.proofs.lemmas.List.{length-map, take_all}
use Rattle.std.proofs.lemmas.List.Elements.{All-more}
use Rattle.std.specs.Prelude.{All}
use Rattle.elf_records.specs.Fields.{splice}
use Rattle.elf_records.specs.Records.{symbol_bytes}
use Rattle.image_writer.specs.declared.draft.NamedSymbol.{NamedSymbol}
use Rattle.image_writer.specs.Tables.{symbol_entry, symbol_total}
use Rattle.image_writer.specs.Told.{told, IsSymbolFitting}
use Rattle.image_writer.proofs.Strings.{no_symbol, names_of-short, name_start-is, name_start-next, strings-told}
use Rattle.image_writer.proofs.SymbolRows.{rows_below, rows_below-all, rows_below-start, rows_below-put}
use Rattle.image_writer.proofs.tables.put_symbols.Goals as goal

pub loop-number-init : goal.loop-number-init
loop-number-init c = (
  c.write_symbol.ensures.bytes
      ∙ ap (λ e. splice c.args.at (symbol_bytes e) c.args.out.now) c.symbol_entry.ensures.entry
      ∙ ap (λ s. splice c.args.at (symbol_bytes (symbol_entry s 0)) c.args.out.now) c.null_symbol.ensures
      ∙ ap (λ rows. splice c.args.at rows c.args.out.now) (rows_below-start c.args.draft.now),
  refl,
  λ k d below. absurd (omega arith),
)

pub overflow_cast-name : goal.overflow_cast-name
overflow_cast-name c =
    let short = names_of-short c.args.draft.now.symbols.now c.loop-number.number no_symbol c.loop-number-test.true in
    let all = ap length (strings-told c.args.draft.now) in
    omega (arith, short, all, c.requires.names)

pub overflow_add-name : goal.overflow_add-name
overflow_add-name c =
    let short = names_of-short c.args.draft.now.symbols.now c.loop-number.number no_symbol c.loop-number-test.true in
    let all = ap length (strings-told c.args.draft.now) in
    omega (arith, short, all, c.requires.names)

pub overflow_add-name-in-loop-number : goal.overflow_add-name-in-loop-number
overflow_add-name-in-loop-number c =
    let short = names_of-short c.args.draft.now.symbols.now c.loop-number.number no_symbol c.loop-number-test.true in
    let all = ap length (strings-told c.args.draft.now) in
    let starts = name_start-is c.args.draft.now c.loop-number.number (omega arith) in
    omega (arith, short, all, starts, c.loop-number.invariant.1, c.requires.names)

pub loop-number-preserved : goal.loop-number-preserved
loop-number-preserved c =
    let i = c.loop-number.number in
    let d = c.args.draft.now in (
      rows_below-put d i c.args.at c.loop-number.name c.symbol_entry-entry.result c.args.out.now c.loop-number.out
          c.write_symbol-in-loop-number.new.bytes c.loop-number-test.true (omega arith) c.loop-number.invariant.1
          c.symbol_entry-entry.ensures.entry c.loop-number.invariant.0 c.write_symbol-in-loop-number.ensures.bytes,
      ap (λ n. n + (length (get_or d.symbols.now i no_symbol).name.now + 1)) c.loop-number.invariant.1
          ∙ sym (name_start-next d i c.loop-number-test.true),
      All-more IsSymbolFitting d.symbols.now i no_symbol c.loop-number-test.true c.loop-number.invariant.2
          (c.symbol_entry-entry.ensures.value, c.symbol_entry-entry.ensures.size),
    )

pub returns-clause-bytes : goal.returns-clause-bytes
returns-clause-bytes c =
    let count = length-map c.args.draft.now.symbols.now (λ (s : NamedSymbol). s.symbol) in
    let all : c.loop-number.number + 1 ≡ symbol_total (told c.args.draft.now) = omega arith in
    c.loop-number.invariant.0
    ∙ ap (λ n. splice c.args.at (rows_below (told c.args.draft.now) n) c.args.out.now) all
    ∙ ap (λ rows. splice c.args.at rows c.args.out.now) (rows_below-all (told c.args.draft.now))

pub returns-clause-fitting : goal.returns-clause-fitting
returns-clause-fitting c =
    let P = λ (xs : List NamedSymbol). All IsSymbolFitting xs in
    subst P (take_all c.loop-number.number c.args.draft.now.symbols.now c.loop-number-test.false) c.loop-number.invariant.2

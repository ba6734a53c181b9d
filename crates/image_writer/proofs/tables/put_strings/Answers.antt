use Rattle.std.proofs.Common.{◌+◌, length, take, get_or, refl, sym, ap, ◌∙◌, arith}
use Rattle.elf_records.specs.Fields.{splice}
use Rattle.image_writer.proofs.Strings.{names_of, no_symbol, names_of-none, names_of-some, names_of-short}
use Rattle.image_writer.proofs.Strings.{names_of-next}
use Rattle.image_writer.proofs.Strings.{names_of-longer, names_of-all, strings-told, put_name}
use Rattle.image_writer.proofs.tables.put_strings.Goals as goal

pub put_zeros-requires : goal.put_zeros-requires
put_zeros-requires c =
    let some = names_of-some c.args.draft.now.symbols.now in
    let all = ap length (strings-told c.args.draft.now) in
    omega (arith, some, all, c.requires)

pub loop-symbol-init : goal.loop-symbol-init
loop-symbol-init c = (
  c.put_zeros.ensures ∙ ap (λ names. splice c.args.at names c.args.out.now) (sym names_of-none),
  ap (λ names. c.args.at + length names) (sym names_of-none),
)

pub put_bytes-requires : goal.put_bytes-requires
put_bytes-requires c =
    let short = names_of-short c.args.draft.now.symbols.now c.loop-symbol.symbol-index no_symbol c.loop-symbol-test.true in
    let all = ap length (strings-told c.args.draft.now) in
    omega (arith, short, all, c.requires, c.loop-symbol.invariant.1)

pub overflow_add-next-in-loop-symbol : goal.overflow_add-next-in-loop-symbol
overflow_add-next-in-loop-symbol c =
    let short = names_of-short c.args.draft.now.symbols.now c.loop-symbol.symbol-index no_symbol c.loop-symbol-test.true in
    let all = ap length (strings-told c.args.draft.now) in
    omega (arith, short, all, c.requires, c.loop-symbol.invariant.1)

pub put_zeros-requires-in-loop-symbol : goal.put_zeros-requires-in-loop-symbol
put_zeros-requires-in-loop-symbol c =
    let short = names_of-short c.args.draft.now.symbols.now c.loop-symbol.symbol-index no_symbol c.loop-symbol-test.true in
    let all = ap length (strings-told c.args.draft.now) in
    omega (arith, short, all, c.requires, c.loop-symbol.invariant.1)

pub overflow_add-next-in-loop-symbol-3 : goal.overflow_add-next-in-loop-symbol-3
overflow_add-next-in-loop-symbol-3 c =
    let short = names_of-short c.args.draft.now.symbols.now c.loop-symbol.symbol-index no_symbol c.loop-symbol-test.true in
    let all = ap length (strings-told c.args.draft.now) in
    omega (arith, short, all, c.requires, c.loop-symbol.invariant.1)

pub loop-symbol-preserved : goal.loop-symbol-preserved
loop-symbol-preserved c =
    let at = c.args.at in
    let i = c.loop-symbol.symbol-index in
    let symbols = c.args.draft.now.symbols.now in
    let done = names_of (take i symbols) in
    let long = names_of-longer symbols i no_symbol (length done) c.loop-symbol-test.true refl in (
      put_name at c.loop-symbol.next done (get_or symbols i no_symbol).name.now c.args.out.now c.loop-symbol.out
          c.put_bytes.new.out c.put_zeros-in-loop-symbol.new.out c.loop-symbol.invariant.1 (omega arith)
          c.loop-symbol.invariant.0 c.put_bytes.ensures c.put_zeros-in-loop-symbol.ensures
          ∙ ap (λ names. splice at names c.args.out.now)
          (sym (names_of-next symbols i no_symbol c.loop-symbol-test.true)),
      omega (arith, long, c.loop-symbol.invariant.1),
    )

pub returns : goal.returns
returns c =
    c.loop-symbol.invariant.0
    ∙ ap (λ names. splice c.args.at names c.args.out.now)
    (names_of-all c.args.draft.now c.loop-symbol.symbol-index c.loop-symbol-test.false)

use Rattle.std.proofs.Common.{◌≡◌, ◌∙◌, ◌+◌, ◌<◌, length, refl, sym, ap, subst, arith}
use Rattle.std.specs.Option.{option_or}
use Rattle.elf_object.specs.Parts.{symbol_count}
use Rattle.tls_symbols.specs.Definitions.{first_in}
use Rattle.tls_symbols.specs.Numbers.{told, IsNumbered}
use Rattle.tls_symbols.proofs.Told.{known_is, left, note_named, note_skip, shared_binding}
use Rattle.tls_symbols.proofs.firsts.note_object.Goals as goal
use Rattle.tls_symbols.proofs.firsts.note_object.Goals.{then-is_definition, else-is_definition}

pub loop-symbol-init : goal.loop-symbol-init
unfolding first_in
loop-symbol-init c = λ name. refl

pub loop-symbol-preserved : goal.loop-symbol-preserved
loop-symbol-preserved c = λ name.
    (let names = c.args.numbers.now.names.keys in
    let b = c.args.object.now in
    let o = c.args.index in
    let a = c.loop-symbol.symbol in
    let table = c.loop-symbol.table in
    let below : a < symbol_count b = omega (arith, c.loop-symbol-test.true, c.symbol_count-symbol-end.ensures.count) in
    elim c.if-is_definition.branch [
      | then-is_definition w ↦
          let defined = sym c.is_definition.ensures ∙ w.if-is_definition.true in
          let known = w.index.result.now in
          let same = known_is c.args.numbers.now.symbols.items o c.index-own.result.now c.index-own.ensures c.requires.there a known known w.index.ensures in
          let is : IsNumbered names b a known =
          subst (IsNumbered names b a) (sym same) (c.requires.numbered.each a known below) in
          let shared = shared_binding c.args.binding b a c.requires.shared defined in
          let len : length table ≡ length names = omega (arith, c.loop-symbol.auto.table, c.requires.len) in
          ap (λ t. option_or (told names t name) (left names c.args.binding o b (a + 1) name)) w.table-is
          ∙ note_named names c.args.binding o b a below table w.note_definition.new.table known.name defined shared is.name len w.note_definition.ensures name
          ∙ c.loop-symbol.invariant name
      | else-is_definition w ↦
          let other = sym c.is_definition.ensures ∙ w.if-is_definition.false in
          ap (λ t. option_or (told names t name) (left names c.args.binding o b (a + 1) name)) w.table-is
          ∙ ap (λ f. option_or (told names table name) f) (note_skip names c.args.binding o b a below other name)
          ∙ c.loop-symbol.invariant name
    ])

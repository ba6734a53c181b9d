use Rattle.std.proofs.Common.{◌≡◌, ◌∙◌, ◌+◌, ◌<◌, length, refl, sym, ap, arith}
use Rattle.std.specs.List.{position}
use Rattle.std.specs.Option.{option_or}
use Rattle.std.specs.Str.{bytes_eq}
use Rattle.elf_object.specs.Lent.{symbol_name}
use Rattle.elf_object.specs.Parts.{symbol_count}
use Rattle.tls_symbols.specs.Definitions.{first_in}
use Rattle.tls_symbols.specs.Numbers.{told}
use Rattle.tls_symbols.proofs.Told.{left, note_skip}
use Rattle.tls_symbols.proofs.ToldAmong.{note_among}
use Rattle.tls_symbols.proofs.firsts.note_among.Goals as goal
use Rattle.tls_symbols.proofs.firsts.note_among.Goals.{then-is_definition, else-is_definition}

pub loop-symbol-init : goal.loop-symbol-init
unfolding first_in
loop-symbol-init c = λ name among. refl

pub loop-symbol-preserved : goal.loop-symbol-preserved
loop-symbol-preserved c = λ name among.
    (let names = c.args.names.now.keys in
    let b = c.args.object.now in
    let o = c.args.index in
    let a = c.loop-symbol.symbol in
    let table = c.loop-symbol.table in
    let below : a < symbol_count b = omega (arith, c.loop-symbol-test.true, c.symbol_count-symbol-end.ensures.count) in
    elim c.if-is_definition.branch [
      | then-is_definition w ↦
          let defined = sym c.is_definition.ensures ∙ w.if-is_definition.true in
          let number = w.get_index_of-number.result in
          let found : position (λ k. bytes_eq (symbol_name b a) k.now) names ≡ number =
          ap (λ x. position (λ k. bytes_eq x k.now) names) (sym w.symbol_name.ensures.name)
          ∙ sym w.get_index_of-number.ensures.index in
          let len : length table ≡ length names = omega (arith, c.loop-symbol.auto.table, c.requires) in
          ap (λ t. option_or (told names t name) (left names c.args.binding o b (a + 1) name)) w.table-is
          ∙ note_among names c.args.binding o b a below table w.note_definition.new.table number defined found len w.note_definition.ensures name among
          ∙ c.loop-symbol.invariant name among
      | else-is_definition w ↦
          let other = sym c.is_definition.ensures ∙ w.if-is_definition.false in
          ap (λ t. option_or (told names t name) (left names c.args.binding o b (a + 1) name)) w.table-is
          ∙ ap (λ f. option_or (told names table name) f) (note_skip names c.args.binding o b a below other name)
          ∙ c.loop-symbol.invariant name among
    ])

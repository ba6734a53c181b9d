use Rattle.std.proofs.Common.{◌≡◌, OnOk, subst}
use Rattle.std.specs.List.{zip}
use Rattle.image_text.specs.Shown.{symbol_line}
use Rattle.image_text.proofs.ShownLemmas.{paired, no_first, no_second, one_line, no_line}
use Rattle.image_text.proofs.shown.push_symbol_at.Goals as goal

pub returns-in_default : goal.returns-in_default
returns-in_default c =
    no_line symbol_line (zip c.args.image.now.symbols c.args.image.now.names) c.args.number _
    (no_first c.args.image.now.symbols c.args.image.now.names c.args.number c.in_default.ensures)

pub returns-in_default-symbol_name : goal.returns-in_default-symbol_name
returns-in_default-symbol_name c =
    no_line symbol_line (zip c.args.image.now.symbols c.args.image.now.names) c.args.number _
    (no_second c.args.image.now.symbols c.args.image.now.names c.args.number c.in_default-symbol_name.ensures)

pub returns : goal.returns
returns c =
    let there = paired c.args.image.now.symbols c.args.image.now.names c.args.number _ _ c.in-Some.ensures c.in-Some-symbol_name.ensures in
    subst (λ l. OnOk c.push_symbol.result (c.push_symbol.new.text.items ≡ l))
    (one_line symbol_line (zip c.args.image.now.symbols c.args.image.now.names) c.args.number _ c.args.text.now.items there) c.push_symbol.ensures

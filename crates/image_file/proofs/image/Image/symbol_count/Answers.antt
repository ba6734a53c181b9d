use Rattle.std.proofs.Common.{◌∙◌, ℕ, length, sym, ap}
use Rattle.image_faults.specs.Array.{symbol_count}
use Rattle.image_faults.specs.Symbols.{symbol}
use Rattle.image_file.specs.Spelled.{symbol_of, name}
use Rattle.image_file.specs.Tabled.{length-tabled}
use Rattle.image_file.proofs.image.Image.symbol_count.Goals as goal

pub returns-clause-symbols : goal.returns-clause-symbols
returns-clause-symbols c =
    let b = c.self.inside.bytes.items in
    c.self.invariant.1.symbol_count_is ∙ sym (length-tabled (λ (k : ℕ). symbol_of (symbol b k)) (symbol_count b))
    ∙ ap (λ v. length v.symbols) c.self.view_is

pub returns-clause-names : goal.returns-clause-names
returns-clause-names c =
    let b = c.self.inside.bytes.items in
    c.self.invariant.1.symbol_count_is ∙ sym (length-tabled (name b) (symbol_count b))
    ∙ ap (λ v. length v.names) c.self.view_is

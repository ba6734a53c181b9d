use Rattle.std.proofs.Common.{◌≡◌, ◌∙◌, ℕ, length, sym, ap}
use Rattle.std.specs.List.{slice_get}
use Rattle.image_faults.specs.Array.{symbol_count}
use Rattle.image_faults.specs.Symbols.{symbol}
use Rattle.image_file.specs.Spelled.{symbol_of, spelled}
use Rattle.image_file.specs.Tabled.{length-tabled}
use Rattle.image_file.proofs.RelocationsLent.{symbol_within}
use Rattle.image_file.proofs.image.Image.relocation.Goals as goal

pub returns-clause-symbol : goal.returns-clause-symbol
returns-clause-symbol c =
    let b = c.self.inside.bytes.items in
    let count : symbol_count b ≡ length c.args.self.now.symbols =
    sym (length-tabled (λ (k : ℕ). symbol_of (symbol b k)) (symbol_count b))
    ∙ ap (λ v. length v.symbols) c.self.view_is in
    symbol_within b (length c.args.self.now.symbols) c.args.number c.relocation_in.result c.self.invariant.0 count
    (c.relocation_in.ensures ∙ ap (λ x. slice_get (spelled x).relocations c.args.number) c.as_slice.ensures.value)

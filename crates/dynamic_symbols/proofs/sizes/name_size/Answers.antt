use Rattle.std.proofs.Common.{◌≡◌, ◌∙◌, ◌+◌, ◌-◌, ◌^◌, map, min, sym, ap}
use Rattle.std.specs.Prelude.{sum_by}
use Rattle.std.proofs.Math.ListN.{drop_of_length-le}
use Rattle.dynamic_symbols.specs.Names.{name_of, name_size, size_of}
use Rattle.dynamic_symbols.proofs.Sums.{capped_more}
use Rattle.dynamic_symbols.proofs.sizes.name_size.Goals as goal

pub loop-name-init : goal.loop-name-init
unfolding name_size
loop-name-init c =
    let objects = c.args.objects.now in
    let symbols = c.args.symbols.now in
    let size = c.loop-found.size in
    let first = sum_by (λ found. size_of (name_of objects found)) symbols in
    let last = sum_by size_of (map (λ name. name.now) c.args.imports.now) in
    let none = drop_of_length-le symbols c.loop-found-test.false in
    let so_far : min (size + 0) (2 ^ 64 - 1) ≡ min first (2 ^ 64 - 1) =
    sym (ap (λ left. min (size + sum_by (λ found. size_of (name_of objects found)) left) (2 ^ 64 - 1)) none)
    ∙ c.loop-found.invariant.0 in
    (capped_more size first last (2 ^ 64 - 1) so_far, c.loop-found.invariant.1)

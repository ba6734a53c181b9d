use Rattle.std.proofs.Common.{◌≡◌, ◌-◌, ◌++◌, drop, take}
use Rattle.std.specs.List.{flat_map, zip}
use Rattle.image_text.specs.Shown.{symbol_line}
use Rattle.image_text.proofs.shown.push_symbols.Given as goal

-- the lines of the symbols so far
abbrev pub invariant-loop-number : goal.invariant-loop-number
invariant-loop-number l =
    l.text.items ≡ l.initial.text.items
    ++ flat_map symbol_line (take (l.number - 1) (drop 1 (zip l.image.symbols l.image.names)))

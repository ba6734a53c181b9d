use Rattle.std.proofs.Common.{◌≡◌, length, take}
use Rattle.image_writer.proofs.Strings.{names_of}
use Rattle.image_writer.proofs.layout.strings_size.Given as goal

abbrev pub invariant-loop-symbol : goal.invariant-loop-symbol
invariant-loop-symbol l = l.size ≡ length (names_of (take l.symbol-index l.draft.symbols.now))

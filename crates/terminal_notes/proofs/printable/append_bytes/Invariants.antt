-- the first bytes are shown
use Rattle.std.proofs.Common.{◌≡◌, ◌++◌, take}
use Rattle.std.specs.List.{flat_map}
use Rattle.terminal_notes.specs.Printable.{shown_byte}
use Rattle.terminal_notes.proofs.printable.append_bytes.Given as goal

abbrev pub invariant-loop-byte : goal.invariant-loop-byte
invariant-loop-byte l = l.into.items ≡ l.initial.into.items ++ flat_map shown_byte (take l.byte-index l.bytes)
